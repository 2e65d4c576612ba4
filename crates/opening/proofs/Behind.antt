-- Opening leaves the words behind the live block as they were after clearing: every write of every stage is to a word of its column.
use Prim.Native.Nat.{ℕ, zero, suc, ◌+◌, ◌-◌, ◌≤◌, ◌<◌}
use mathlib.Core.Path.{◌≡◌, refl, ap, ◌∙◌, sym, subst}
use mathlib.Core.Bool.{Bool, true, false, cond}
use mathlib.Core.List.{List, ◌++◌}
use native.Mathlib.Omega.{arith}
use lib.Dec.{ltb}
use lib.ListN.{length, get_or, drop, replicate, length-append, length-drop, length-replicate, get_or-append}
use lib.Seq.{get_or-drop}
use borrow.Author.Tests.{ltb-false}
use Rattle.std.proofs.Common.{Some, None, Ok, Err}
use Rattle.job.specs.Limits as limit
use Rattle.job.specs.declared.refusal.Refusal.TheVariants as refusal
use Rattle.store.specs.Field.{BLOCK, STATES, KEPT, LENGTH}
use Rattle.store.specs.States.{is_name, name_at, Apart}
use Rattle.store.specs.Named.{first_of, records_of}
use Rattle.store.specs.Boxes.{Boxed}
use Rattle.bounds.proofs.Beside.{behind_all, set_boxed}
use Rattle.handed.proofs.Handing.{usable_handed}
use Rattle.joins.specs.declared.JoinError.TheVariants.{Knot, Full}
use Rattle.reading.specs.Fill as fill
use Rattle.accepting.specs.Accept.{accept_of}
use Rattle.joins.specs.Join as join
use Rattle.joins.specs.Join.{process_horz_joins}
use Rattle.joins.specs.Needs as goal
use Rattle.joins.specs.Resolved.{Ready}
use Rattle.joins.proofs.Turns.{words}
use Rattle.converting.specs.Make.{Made, made, convert_horz_segs_to_joins}
use Rattle.converting.specs.Needs.{Converting}
use Rattle.opening.specs.Start.{start_writes, start_ring, start_to, start_rings}
use Rattle.opening.specs.Open.{JOIN_POINTS, End, end, after_joins, after_segments, after_rows, stages_of, settled, cleared, open_of}
use Rattle.opening.specs.After.{OpenedOver}
use Rattle.opening.proofs.Accepted.{after_opening_lem}
use Rattle.opening.proofs.Clearing.{cleared_rest, cleared_live}
use Rattle.opening.proofs.Passing.{converting, may_join, made_ready}
use Rattle.opening.proofs.Starting.{set_long, set_few}
use Rattle.opening.proofs.BehindReading.{RestSame, writes_behind, FilledBehind, accept_behind}
use Rattle.opening.proofs.BehindSegments.{MadeBehind, convert_behind}
use Rattle.opening.proofs.BehindJoins.{list_behind}

-- the words behind the live block are `rest`
module _ (rest : List ℕ) where
  -- ---- rings at their start

  start_behind : (w : List ℕ) (i : ℕ) → i ≤ limit.RECORDS → RestSame rest w → RestSame rest (start_to i w)
  unfolding start_to start_ring
  start_behind w zero h z = z
  start_behind w (suc i) h z =
      let l : i < limit.RECORDS = omega arith in
      writes_behind rest (start_to i w) (start_writes i (first_of (start_to i w) i)) (l, (l, (l, (l, tt)))) (start_behind w i (omega arith) z)

  started : (w : List ℕ) → Ready w → RestSame rest w → RestSame rest (start_rings w)
  unfolding start_rings
  started w r z =
      let h : records_of w ≤ limit.RECORDS = r.resolved.few_records in
      let u : List ℕ = start_to (records_of w) w in
      behind_all u (set_long w r.long h u refl) (set_few w r.long h u refl) ∙ start_behind w (records_of w) h z

  -- ---- stage by stage

  abbrev EndBehind : End → Type 0
  EndBehind (end a w) = RestSame rest w

  by_joins : (k : ℕ) (js w : List ℕ) → goal.Joins w k js → RestSame rest w → EndBehind (after_joins (process_horz_joins k js w))
  by_joins k js w g z = go (process_horz_joins k js w) refl (list_behind rest k 0 k js w g (omega arith) z)
    where
      go : (T : join.JoinEnd) → T ≡ process_horz_joins k js w → RestSame rest (words T) → EndBehind (after_joins T)
      go (join.end (Ok tt) x) e q = started x (made_ready k js w x (Ok tt) g e) q
      go (join.end (Err Knot) x) e q = q
      go (join.end (Err Full) x) e q = q

  by_segments : (w ss : List ℕ) (m : ℕ) (js : List ℕ) (n : ℕ) → Converting w ss m js n → RestSame rest w → EndBehind (after_segments (convert_horz_segs_to_joins w m ss js n))
  by_segments w ss m js n g z = go (convert_horz_segs_to_joins w m ss js n) refl (convert_behind rest w ss m js n g z)
    where
      go : (T : Made) → T ≡ convert_horz_segs_to_joins w m ss js n → MadeBehind rest T → EndBehind (after_segments T)
      go (made (Some k) x ks) e q = by_joins k ks x (may_join w ss m js n (Some k) k x ks g e refl) q
      go (made None x ks) e q = q

  by_rows : (bytes w : List ℕ) → BLOCK ≤ length w → RestSame rest w → EndBehind (stages_of bytes w)
  unfolding stages_of
  by_rows bytes w l z = go (accept_of bytes w (replicate limit.SEGMENTS 0) (replicate JOIN_POINTS 0)) refl (accept_behind rest bytes w (replicate limit.SEGMENTS 0) (replicate JOIN_POINTS 0) z)
    where
      go : (T : fill.ReadEnd) → accept_of bytes w (replicate limit.SEGMENTS 0) (replicate JOIN_POINTS 0) ≡ T → FilledBehind rest T → EndBehind (after_rows T)
      go (fill.end (Ok j) v ts ks) e q = by_segments v ts j.segments ks j.joins (converting bytes w v ts ks j l e) q
      go (fill.end (Err x) v ts ks) e q = q

  -- ---- opening

  settles : (n : ℕ) (T : End) (w : List ℕ) → EndBehind T → settled n T ≡ end (Ok tt) w → RestSame rest w
  settles n (end (Ok tt) u) w q e = let f : u ≡ w = cc in subst (RestSame rest) f q
  settles n (end (Err r) u) w q e = absurd (let z : ◌≡◌ {A = ℕ} 0 1 = cc in omega arith)

-- THE LAW, of an accepted job
module _ (bytes lent w : List ℕ) (e : open_of bytes lent ≡ end (Ok tt) w) where
  pub open_behind : drop BLOCK w ≡ drop BLOCK (cleared lent)
  unfolding open_of
  open_behind = by (ltb (length lent) LENGTH) refl e
    where
      by : (t : Bool) → ltb (length lent) LENGTH ≡ t → cond t (end (Err refusal.Full) (replicate (length lent) 0)) (settled (length lent) (stages_of bytes (cleared lent))) ≡ end (Ok tt) w → drop BLOCK w ≡ drop BLOCK (cleared lent)
      by true h f = absurd (let z : ◌≡◌ {A = ℕ} 0 1 = cc in omega arith)
      by false h f = settles (drop BLOCK (cleared lent)) (length lent) (stages_of bytes (cleared lent)) w (by_rows (drop BLOCK (cleared lent)) bytes (cleared lent) (cleared_live lent h) refl) f

  lent_long : LENGTH ≤ length lent
  unfolding open_of
  lent_long = by (ltb (length lent) LENGTH) refl e
    where
      by : (t : Bool) → ltb (length lent) LENGTH ≡ t → cond t (end (Err refusal.Full) (replicate (length lent) 0)) (settled (length lent) (stages_of bytes (cleared lent))) ≡ end (Ok tt) w → LENGTH ≤ length lent
      by true h f = absurd (let z : ◌≡◌ {A = ℕ} 0 1 = cc in omega arith)
      by false h f = ltb-false (length lent) LENGTH h

  pub open_rest : drop BLOCK w ≡ replicate STATES 0 ++ drop KEPT lent
  open_rest = open_behind ∙ cleared_rest lent (omega (arith, lent_long))

  pub open_length : length w ≡ length lent
  open_length =
      let a : length w - BLOCK ≡ length (replicate {A = ℕ} STATES 0) + length (drop KEPT lent) = sym (length-drop BLOCK w) ∙ ap length open_rest ∙ length-append (replicate STATES 0) (drop KEPT lent) in
      omega (arith, a, length-replicate {A = ℕ} STATES 0, length-drop KEPT lent, lent_long, (after_opening_lem w bytes lent e).ready.long)

  pub open_long : LENGTH ≤ length w
  open_long = omega (arith, open_length, lent_long)

  -- "A newly opened job has no name kept, whatever the work space held before"
  pub open_free : (p : ℕ) → p < STATES → name_at w p ≡ 0
  open_free p l =
      sym (get_or-drop BLOCK w p 0)
      ∙ ap (λ (v : List ℕ). get_or v p 0) open_rest
      ∙ get_or-append (replicate STATES 0) (drop KEPT lent) 0 p (omega (arith, length-replicate {A = ℕ} STATES 0))
      ∙ none_kept p l
    where
      none_kept : (p : ℕ) → p < STATES → get_or (replicate {A = ℕ} STATES 0) p 0 ≡ 0
      none_kept zero h = refl
      none_kept (suc zero) h = refl
      none_kept (suc (suc zero)) h = refl
      none_kept (suc (suc (suc zero))) h = refl
      none_kept (suc (suc (suc (suc p)))) h = absurd (omega arith)

  pub open_apart : Apart w
  open_apart = record { differ = λ p q l h n. absurd (let a = open_free p (omega arith) in let z : is_name 0 ≡ true = sym (ap is_name a) ∙ n in let y : ◌≡◌ {A = ℕ} 0 1 = cc in omega arith) }

  pub open_boxed : (i : ℕ) → i < records_of w → Boxed w i
  open_boxed i l = set_boxed w i ((after_opening_lem w bytes lent e).boxes i l)

  -- THE LAW, of every word
  pub opened_over : OpenedOver lent w
  opened_over =
      record {
        live = after_opening_lem w bytes lent e;
        long = open_length;
        rest = open_rest;
        no_name = λ p l. ap is_name (open_free p l);
        tests = usable_handed w (record { long = open_long; sound = (after_opening_lem w bytes lent e).sound; boxed = open_boxed; apart = open_apart });
      }
