-- The measure falls with every step: for a program's loop that finishes a ring in one call.
use mathlib.Core.Path.{◌≡◌, refl}
use mathlib.Core.List.{List, [], ◌∷◌}
use mathlib.Core.Option.{Option, none, some}
use mathlib.Core.Bool.{Bool, true, false}
use Prim.Native.Nat.{ℕ, zero, suc, ◌+◌, ◌≤◌, ◌<◌}
use native.Mathlib.Nat.{add-zero, add-mul, suc-mul, not-suc-le-zero, le_of_suc-le-suc}
use native.Mathlib.Omega.{arith}
use lib.ListN.{length, length-append}
use Rattle.rings.specs.Circle.{rest, back, cut_circle}
use Rattle.rings.specs.Progress.{Due, validity, removal, triangle, split, done, Discard, Ring, tidy_at, tidy}
use Rattle.rings.proofs.Circles.{length_turn, length_spin, length_init_of}
use Rattle.lone.specs.Act.{Act, stay, discard, drop_point, move_on, to_first, double, cut, apply, takes_points}
use Rattle.lone.specs.Lone.{Geo, act_of, step_ring, takes_ring}
use Rattle.lone.specs.Order.{machine}
use Rattle.lone.specs.Kept.{OnCircle, PlacesOnRing, HasStart}
use Rattle.lone.specs.Measure.{walk_left, start_left, weigh, weight, measure}
use Rattle.lone.specs.Rounds.{rounds, heaviest}
use Rattle.lone.proofs.Falling.{falls}

rounds_mono : (m n : ℕ) → m ≤ n → rounds m ≤ rounds n
rounds_mono zero n h = omega arith
rounds_mono (suc m) zero h = absurd (not-suc-le-zero h)
rounds_mono (suc m) (suc n) h = omega (arith, rounds_mono m n (le_of_suc-le-suc h))

walk_le : (n f : ℕ) (s : Option ℕ) → OnCircle n f s → walk_left n f ≤ n
walk_le zero zero s h = omega arith
walk_le zero (suc f) s h = absurd (omega (arith, h.0))
walk_le (suc m) zero s h = omega arith
walk_le (suc m) (suc f) s h = omega (arith, h.0)

start_le : (n f : ℕ) (s : Option ℕ) → OnCircle n f s → start_left n s ≤ n
start_le n f none h = omega arith
start_le zero f (some zero) h = omega arith
start_le zero f (some (suc k)) h = absurd (omega (arith, h.1))
start_le (suc m) f (some zero) h = omega arith
start_le (suc m) f (some (suc k)) h = omega (arith, h.1)

weigh_le : (n f : ℕ) (s : Option ℕ) (d : Due) → OnCircle n f s → weigh n f s d ≤ heaviest n
weigh_le n f s validity h = omega arith
weigh_le n f s removal h = omega (arith, start_le n f s h)
weigh_le n f s triangle h = omega arith
weigh_le n f s split h = omega (arith, walk_le n f s h)
weigh_le n f s done h = omega arith

module _ {P : Type 0} where
  pub weight_le : (n : ℕ) (R : Ring P) → PlacesOnRing R → length R.circle ≤ n → weight R ≤ heaviest n
  weight_le n R h l = omega (arith, weigh_le (length R.circle) R.first R.start R.due h, rounds_mono (length R.circle) n l)

  -- a circle grows by the points that a step takes, at most
  pub grows : (act : Act P) (R : Ring P) → length (apply (λ (v : P). v) act R).circle ≤ length R.circle + takes_points act
  grows stay R = omega arith
  grows (discard y) R = omega arith
  grows drop_point R = go R.circle
    where
      go : (c : List P) → length (rest c) ≤ length c + 0
      go [] = omega arith
      go (x ∷ c) = omega arith
  grows (move_on d) R = omega (arith, length_turn R.circle)
  grows (to_first d) R = omega (arith, length_spin R.first R.circle)
  grows (double v d) R = omega (arith, length-append R.circle (v ∷ []))
  grows (cut v put off d) R = less put R.circle
    where
      less : (put : Bool) (c : List P) → length (cut_circle put v (back c)) ≤ length c + takes_points (cut v put off d)
      less put [] = omega arith
      less put (x ∷ []) = omega arith
      less put (x ∷ y ∷ []) = omega arith
      less true (x ∷ y ∷ z ∷ r) = omega (arith, length_init_of z r)
      less false (x ∷ y ∷ z ∷ r) = omega (arith, length_init_of z r)

  length_tidy : (R : Ring P) → length (tidy R).circle ≡ length R.circle
  length_tidy R = go R.circle R.first R.start R.due R.why
    where
      go : (c : List P) (f : ℕ) (s : Option ℕ) (d : Due) (y : Option Discard) → length (tidy_at c f s d y).circle ≡ length c
      go c f s validity y = length_spin f c
      go c f s removal y = refl
      go c f s triangle y = length_spin f c
      go c f s split y = refl
      go c f s done y = length_spin f c

  pub step_grows : (G : Geo P) (R : Ring P) → length (step_ring G R).circle ≤ length R.circle + takes_ring G R
  unfolding step_ring takes_ring
  step_grows G R = omega (arith, length_tidy (apply (λ (v : P). v) (act_of G R) R), grows (act_of G R) R)

  -- with circles of at most n points, and `free` points left after the step
  pub measure_falls : (G : Geo P) (n free : ℕ) (R : Ring P) → (machine G).over R ≡ false → HasStart R.due R.start → PlacesOnRing ((machine G).next R) → length ((machine G).next R).circle ≤ n
      → measure n free ((machine G).next R) < measure n (free + (machine G).takes R) R
  measure_falls G n free R v g h l = go ((machine G).takes R) refl
    where
      go : (k : ℕ) → (machine G).takes R ≡ k → measure n free ((machine G).next R) < measure n (free + k) R
      go zero e = rw add-zero (omega (arith, (falls G R g v e).1))
      go (suc k) e = omega (arith, weight_le n ((machine G).next R) h l, add-mul free (suc k) (suc (heaviest n)), suc-mul k (suc (heaviest n)))
