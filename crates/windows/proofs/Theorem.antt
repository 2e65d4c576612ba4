-- Ask 13's sentence on windows, of every work space that passes the tests.
use Prim.Native.Nat.{ℕ, ◌<◌}
use mathlib.Core.Path.{◌≡◌, refl, sym, ap, ◌∙◌}
use mathlib.Core.Logic.{◌↔◌}
use mathlib.Core.Bool.{Bool, true, false, not, ◌&&◌}
use mathlib.Core.List.{List, [], map}
use mathlib.Core.Option.{none, some}
use native.Mathlib.Omega.{arith}
use native.Mathlib.Decide.{dec_lt}
use lib.ListN.{length}
use borrow.Author.Tests.{lt-ltb, le-ltb}
use Rattle.std.specs.Prelude.{Result}
use Rattle.job.specs.declared.refusal.Refusal.{Refusal}
use Rattle.rings.specs.Count.{occ}
use Rattle.geometry.specs.declared.Rect.{Rect}
use Rattle.store.specs.Words.{view}
use Rattle.store.specs.Sound.{recs, ringless, ring_at}
use Rattle.store.specs.Value.{point_at}
use Rattle.store.specs.Boxes.{box_at, ring_box}
use Rattle.handed.specs.Handed.{Usable}
use Rattle.handed.proofs.Handing.{usable_handed}
use Rattle.windows.specs.Window.{box_meets, inside_out}
use Rattle.windows.specs.RecordsIn.{is_in, once, passing, all_in, listing, records_by, records_in}
use Rattle.windows.specs.Windows.{Shared, ring_meets, Windows}
use Rattle.windows.proofs.Passing.{passing_few, passing_past, passing_here, passing_rises, passing_same, passing_none}
use Rattle.windows.proofs.Meeting.{meets_means, inside_out_lem}

module _ (w : List ℕ) (u : Usable w) (window : Rect) where
  abbrev meets : ℕ → Bool
  meets i = ring_meets window (ring_box (view w) i)

  -- the words beside a ring are its box
  in_ring : (i : ℕ) → i < recs (view w) → is_in w window i ≡ meets i
  unfolding is_in ring_box
  in_ring i h = go (ringless (view w) i) refl (u.boxed i h).box
    where
      go : (b : Bool) → ringless (view w) i ≡ b → (b ≡ false → ring_box (view w) i ≡ some (box_at w i)) → (not b && box_meets (box_at w i) window) ≡ ring_meets window (ring_box (view w) i)
      go true e k = let z : ring_box (view w) i ≡ none = rw e in sym (ap (ring_meets window) z)
      go false e k = ap (ring_meets window) (sym (k refl))

  by_rings : all_in w window ≡ passing meets (recs (view w))
  unfolding all_in
  by_rings = passing_same (is_in w window) meets (recs (view w)) in_ring

  means : (j : ℕ) → (meets j ≡ true) ↔ Shared window (ring_box (view w) j)
  unfolding ring_box
  means j = meets_means window (map (point_at (view w)) (ring_at (view w) j))

  once_true : (b : Bool) → 0 < once b → b ≡ true
  once_true true h = refl
  once_true false h = absurd (omega arith)

  exactly : (j : ℕ) → (0 < occ j (all_in w window)) ↔ ((j < recs (view w)) × Shared window (ring_box (view w) j))
  exactly j = (there (dec_lt j (recs (view w))), back)
    where
      there : Dec (j < recs (view w)) → 0 < occ j (all_in w window) → (j < recs (view w)) × Shared window (ring_box (view w) j)
      there (yes l) o = (l, (means j).0 (once_true (meets j) (omega (arith, o, ap (occ j) by_rings, passing_here meets (recs (view w)) j l))))
      there (no l) o = absurd (omega (arith, o, ap (occ j) by_rings, passing_past meets (recs (view w)) j (omega arith)))

      back : (j < recs (view w)) × Shared window (ring_box (view w) j) → 0 < occ j (all_in w window)
      back h = omega (arith, ap (occ j) by_rings, passing_here meets (recs (view w)) j h.0, ap once ((means j).1 h.1))

  nothing : inside_out window ≡ true → all_in w window ≡ []
  unfolding all_in is_in
  nothing h = passing_none (is_in w window) (recs (view w)) (λ i. go (ringless (view w) i) i)
    where
      go : (b : Bool) (i : ℕ) → (not b && box_meets (box_at w i) window) ≡ false
      go true i = refl
      go false i = inside_out_lem window (box_at w i) h

  -- the call, where the tests pass
  called : (l : List ℕ) → records_in w window l ≡ listing (all_in w window) l
  unfolding records_in
  called l = ap (λ (v : Result (Unit {0}) Refusal). records_by v w window l) (usable_handed w u)

  pub windows : Windows w window
  unfolding all_in
  windows =
      record {
        by_rings = by_rings;
        exactly = exactly;
        rising = passing_rises (is_in w window) (recs (view w));
        turned_inside_out = nothing;
        fits = λ l h. called l ∙ rw (le-ltb (length l) (length (all_in w window)) h);
        short = λ l h. called l ∙ rw (lt-ltb (length l) (length (all_in w window)) h);
        suffices = omega (arith, passing_few (is_in w window) (recs (view w)), u.sound.few_records);
      }
