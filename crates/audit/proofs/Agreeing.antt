-- A sound store passes the tests; so they pass exactly when it is sound.
use Prim.Native.Nat.{ℕ, zero, suc, ◌≤◌, ◌<◌}
use mathlib.Core.Path.{◌≡◌, refl}
use mathlib.Core.Logic.{◌⊎◌, inl, inr, ◌↔◌}
use mathlib.Core.Bool.{Bool, true, false}
use mathlib.Core.List.{List}
use native.Mathlib.Omega.{arith}
use native.Mathlib.Decide.{dec_lt}
use borrow.Author.Tests.{ne_eqb, eqb-true}
use Rattle.std.specs.Prelude.{Ok}
use Rattle.rings.specs.Count.{occ}
use Rattle.rings.specs.Progress.{is_done}
use Rattle.rings.specs.Whole.{Whole}
use Rattle.rings.proofs.Counting.{sum_two}
use Rattle.rings.proofs.Members.{next_on, prev_on, next_prev, prev_next}
use Rattle.rings.proofs.Tables.{Found}
use Rattle.store.specs.Field.{NONE}
use Rattle.store.specs.Words.{view}
use Rattle.store.specs.Named.{points_of, records_of, next_of, prev_of, first_of, progress_of}
use Rattle.store.specs.Sound.{ringless, ring_at, due_of}
use Rattle.store.specs.Good.{PointIn, Sound}
use Rattle.store.proofs.Soundness.{whole, first_on}
use Rattle.audit.specs.Tests.{reached_by, off_table, no_such, no_such_of, lost_taker, loose, shared, misplaced, untold, tests_of}
use Rattle.audit.proofs.Reaching.{only_reached}
use Rattle.audit.proofs.Saying.{all_none, none_reached, table_on, such_not, tied_not, owned_not, taker_not, alone_not, misplaced_not, untold_not, Passing, passing, passed}
use Rattle.audit.proofs.Deciding.{passing_sound}

module _ (w : List ℕ) (s : Sound (view w)) where
  ring : ℕ → List ℕ
  ring i = ring_at (view w) i

  ring_whole : (i : ℕ) → i < records_of w → Whole (next_of w) (prev_of w) (points_of w) (ring i)
  unfolding ring
  ring_whole i h = whole (view w) s i h

  ringed : (i : ℕ) → first_of w i < points_of w → ringless (view w) i ≡ false
  ringed i h = ne_eqb (first_of w i) NONE (λ e. omega (arith, s.few_points))

  -- every reached point is on the ring of one of the records that it was reached from
  on_ring_lem : (j : ℕ) → j ≤ records_of w → (k : ℕ) → 0 < occ k (reached_by w j) → Found ring j k
  unfolding ring
  on_ring_lem j l k o =
      only_reached w (Found ring j) j
      (λ x f h. record { at = f.at; low = f.low; here = next_on (next_of w) (prev_of w) (points_of w) (ring f.at) (ring_whole f.at (omega (arith, f.low))) x f.here })
      (λ i h q. record { at = i; low = h; here = first_on (view w) i (ringed i q) })
      k o

  module _ (k : ℕ) (o : 0 < occ k (reached_by w (records_of w))) where
    f : Found ring (records_of w) k
    f = on_ring_lem (records_of w) (omega arith) k o

    here : PointIn (view w) k
    unfolding ring
    here = (s.good f.at f.low).points_in_lem k f.here

    r : Whole (next_of w) (prev_of w) (points_of w) (ring f.at)
    r = ring_whole f.at f.low

    on_table : off_table w k ≡ false
    on_table = table_on w k here.x_in here.y_in

    numbered : no_such w k ≡ false
    numbered =
        such_not w k
        (r.below (next_of w k) (next_on (next_of w) (prev_of w) (points_of w) (ring f.at) r k f.here))
        (r.below (prev_of w k) (prev_on (next_of w) (prev_of w) (points_of w) (ring f.at) r k f.here))
        here.record_in

    tied : loose w k ≡ false
    tied =
        tied_not w k
        (next_prev (next_of w) (prev_of w) (points_of w) (ring f.at) r k f.here)
        (prev_next (next_of w) (prev_of w) (points_of w) (ring f.at) r k f.here)

  first_is : (i : ℕ) → i < records_of w → (first_of w i ≡ NONE) ⊎ (first_of w i < points_of w)
  first_is i h = go (ringless (view w) i) refl
    where
      go : (b : Bool) → ringless (view w) i ≡ b → (first_of w i ≡ NONE) ⊎ (first_of w i < points_of w)
      go true e = inl (eqb-true (first_of w i) NONE e)
      go false e = inr ((s.good i h).points_in_lem (first_of w i) (first_on (view w) i e)).below

  apart : (j : ℕ) → j < records_of w → occ (first_of w j) (reached_by w j) ≡ 0
  unfolding ring
  apart j h = go (dec_lt 0 (occ (first_of w j) (reached_by w j)))
    where
      bad : Found ring j (first_of w j) → (b : Bool) → ringless (view w) j ≡ b → ⊥
      bad t true e = omega (arith, eqb-true (first_of w j) NONE e, ((s.good t.at (omega (arith, t.low))).points_in_lem (first_of w j) t.here).below, s.few_points)
      bad t false e =
          omega (
            arith,
            s.once (first_of w j),
            t.here,
            first_on (view w) j e,
            sum_two (records_of w) t.at j (λ (i : ℕ). occ (first_of w j) (ring_at (view w) i)) (omega (arith, t.low)) h (λ z. omega (arith, t.low)),
          )

      go : Dec (0 < occ (first_of w j) (reached_by w j)) → occ (first_of w j) (reached_by w j) ≡ 0
      go (yes o) = absurd (bad (on_ring_lem j (omega arith) (first_of w j) o) (ringless (view w) j) refl)
      go (no d) = omega arith

  going : (d : ℕ) → d < 4 → is_done (due_of d) ≡ false
  going zero h = refl
  going (suc zero) h = refl
  going (suc (suc zero)) h = refl
  going (suc (suc (suc zero))) h = refl
  going (suc (suc (suc (suc d)))) h = absurd (omega arith)

  placed : (i : ℕ) → i < records_of w → misplaced w i ≡ false
  placed i h =
      misplaced_not w i
      (λ a b. (s.good i h).meant (record { known = h; ringed = a; closed = b }))
      (λ a b l. (s.good i h).going (record { known = h; ringed = a; closed = b }) (going (progress_of w i) l))

  sound_passing : Passing w
  sound_passing =
      record {
        points = s.few_points;
        records = s.few_records;
        placed = none_reached w (off_table w) on_table;
        numbered = none_reached w (no_such w) numbered;
        owned = all_none (records_of w) (no_such_of w) (λ i h. owned_not w i (s.good i h).owner (first_is i h));
        taken = all_none (records_of w) (lost_taker w) (λ i h. taker_not w i (s.good i h).explained);
        tied = none_reached w (loose w) tied;
        apart = all_none (records_of w) (shared w) (λ j h. alone_not w j (apart j h));
        meant = all_none (records_of w) (misplaced w) placed;
        explained_all = all_none (records_of w) (untold w) (λ i h. untold_not w i (s.good i h).explained);
      }

pub passed_sound : (w : List ℕ) → tests_of w ≡ Ok tt → Sound (view w)
passed_sound w e = passing_sound w (passing w e)

pub sound_passed : (w : List ℕ) → Sound (view w) → tests_of w ≡ Ok tt
sound_passed w s = passed w (sound_passing w s)

-- the tests pass exactly when the store is sound
pub tests_decide : (w : List ℕ) → (tests_of w ≡ Ok tt) ↔ Sound (view w)
tests_decide w = (passed_sound w, sound_passed w)
