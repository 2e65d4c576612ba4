-- The needs of convert_horz_segs_to_joins; and that its joins are joins of points, which process_horz_joins asks.
use Prim.Native.Nat.{ℕ, zero, suc, ◌<◌}
use mathlib.Core.Path.{◌≡◌, refl, ap, ◌∙◌}
use mathlib.Core.Logic.{◌⊎◌}
use mathlib.Core.List.{List, [], ◌∷◌, map}
use native.Mathlib.Omega.{arith}
use lib.ListN.{get_or, length, length-map}
use Rattle.std.proofs.Common.{Option, Some, None}
use Rattle.job.specs.Limits as limit
use Rattle.store.specs.Field.{NONE}
use Rattle.joins.specs.Needs as goal
use Rattle.sorting.specs.declared.HorzSegment.{HorzSegment}
use Rattle.sorting.specs.Sorted.{sorted}
use Rattle.sorting.proofs.Stable.{Each, sorted_each}
use Rattle.sorting.proofs.Sinking.{sorted_length}
use Rattle.segment_rows.specs.Spread.{spread, spread_of}
use Rattle.segments.specs.Needs.{Span}
use Rattle.segments.specs.Update.{segments_of}
use Rattle.segments.specs.Needs.{Listed}
use Rattle.segments.proofs.Updates.{Listable, segments_length, segments_fit}
use Rattle.converting.specs.Make.{Made, made, Out, out, made_of, outer_from, sorted_segments, pairs_of, convert_horz_segs_to_joins}
use Rattle.converting.specs.Needs.{Pairing, Converting}
use Rattle.converting.proofs.Making.{PairingOf}
use Rattle.converting.proofs.Looping.{outer_kept}

-- ---- the sorted list

pub sorted_256 : (w : List ℕ) (n : ℕ) (ps : List ℕ) → length (sorted_segments w n ps) ≡ limit.SEGMENTS
unfolding sorted_segments
sorted_256 w n ps = sorted_length (segments_of w n ps) ∙ segments_length w n ps

-- every segment is struck out or spans
pub sorted_fit : (w : List ℕ) (n : ℕ) (ps : List ℕ) → Listed w n ps → Each (Listable w) (sorted_segments w n ps)
unfolding sorted_segments
sorted_fit w n ps t = sorted_each (Listable w) (segments_of w n ps) (segments_fit w n ps t)

fit_at : (w : List ℕ) (R : List HorzSegment) → Each (Listable w) R → (s : ℕ) → s < length R
    → (get_or (map (λ (r : HorzSegment). r.right) R) s 0 ≡ NONE) ⊎ Span w (get_or (map (λ (r : HorzSegment). r.left) R) s 0) (get_or (map (λ (r : HorzSegment). r.right) R) s 0)
fit_at w [] h s l = absurd (omega arith)
fit_at w (a ∷ R) h zero l = h.0.spans
fit_at w (a ∷ R) h (suc s) l = fit_at w R h.1 s (omega arith)

module _ (w ps : List ℕ) (n : ℕ) (js : List ℕ) (m : ℕ) (t : Converting w ps n js m) where
  pub converting_pairing : (ls rs fs : List ℕ) → spread ls rs fs ≡ spread_of (sorted_segments w n ps) → Pairing w ls rs fs js m
  converting_pairing ls rs fs e =
      let a : ls ≡ map (λ (r : HorzSegment). r.left) (sorted_segments w n ps) = cc in
      let b : rs ≡ map (λ (r : HorzSegment). r.right) (sorted_segments w n ps) = cc in
      let c : fs ≡ map (λ (r : HorzSegment). r.forward) (sorted_segments w n ps) = cc in
      record {
        ready = t.listed.ready;
        lefts = ap length a ∙ length-map (sorted_segments w n ps) (λ (r : HorzSegment). r.left) ∙ sorted_256 w n ps;
        rights = ap length b ∙ length-map (sorted_segments w n ps) (λ (r : HorzSegment). r.right) ∙ sorted_256 w n ps;
        forwards = ap length c ∙ length-map (sorted_segments w n ps) (λ (r : HorzSegment). r.forward) ∙ sorted_256 w n ps;
        room = t.room;
        span = λ s l. rw (a, b) (fit_at w (sorted_segments w n ps) (sorted_fit w n ps t.listed) s (omega (arith, sorted_256 w n ps)));
        named = t.named;
        few = omega (arith, t.few);
      }

  -- the list, sorted, spread over three columns
  module _ (l o : List HorzSegment) (ls rs fs : List ℕ) (e : l ≡ segments_of w n ps) (f : o ≡ sorted l) (g : spread ls rs fs ≡ spread_of o) where
    spread_is : spread ls rs fs ≡ spread_of (sorted_segments w n ps)
    unfolding sorted_segments
    spread_is = g ∙ ap spread_of (f ∙ ap sorted e)

    pub sorted_pairing : Pairing w ls rs fs js m
    sorted_pairing = converting_pairing ls rs fs spread_is

    pub converted : (r : Option ℕ) (x ls' js' : List ℕ) → out r x ls' js' ≡ outer_from 256 rs fs 0 w ls js m → made r x js' ≡ convert_horz_segs_to_joins w n ps js m
    unfolding convert_horz_segs_to_joins pairs_of
    converted r x ls' js' h =
        let i : spread ls rs fs ≡ spread_of (sorted_segments w n ps) = spread_is in
        let a : ls ≡ map (λ (q : HorzSegment). q.left) (sorted_segments w n ps) = cc in
        let b : rs ≡ map (λ (q : HorzSegment). q.right) (sorted_segments w n ps) = cc in
        let c : fs ≡ map (λ (q : HorzSegment). q.forward) (sorted_segments w n ps) = cc in
        ap made_of h ∙ rw (a, b, c)

  -- what process_horz_joins asks
  abbrev pub JoinsOf : Made → Type 0
  JoinsOf (made (Some k) x js') = goal.Joins x k js'
  JoinsOf (made None x js') = Unit {0}

  pub convert_joins : JoinsOf (convert_horz_segs_to_joins w n ps js m)
  unfolding convert_horz_segs_to_joins pairs_of
  convert_joins = go (outer_from 256 rs fs 0 w ls js m) (outer_kept 256 rs fs 0 w ls js m (converting_pairing ls rs fs refl) refl)
    where
      ls : List ℕ
      ls = map (λ (q : HorzSegment). q.left) (sorted_segments w n ps)

      rs : List ℕ
      rs = map (λ (q : HorzSegment). q.right) (sorted_segments w n ps)

      fs : List ℕ
      fs = map (λ (q : HorzSegment). q.forward) (sorted_segments w n ps)

      go : (c : Out) → PairingOf rs fs c → JoinsOf (made_of c)
      go (out (Some k) x ls' js') p = record { ready = p.ready; fits = omega (arith, p.few, p.room, p.ready.resolved.few_points); points = p.named }
      go (out None x ls' js') p = tt
