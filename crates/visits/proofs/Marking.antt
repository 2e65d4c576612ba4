-- What the marks say after the walks: a point is marked exactly when it is on a record's ring.
use mathlib.Core.Path.{◌≡◌, refl, sym, ap, ◌∙◌}
use mathlib.Core.Bool.{Bool, true, false, not, ◌&&◌, ◌||◌}
use mathlib.Core.Logic.{◌≢◌}
use mathlib.Core.List.{List, [], ◌∷◌}
use Prim.Native.Nat.{ℕ, zero, suc, ◌/◌, ◌%◌, ◌^◌, ◌<◌, ◌≤◌}
use native.Mathlib.Decide.{ℕ_discrete}
use native.Mathlib.Omega.{arith}
use lib.Dec.{ltb, eqb}
use lib.ListN.{length, length-replicate}
use borrow.Author.Tests.{lt-ltb, eq-eqb, ne_eqb}
use Rattle.rings.specs.Count.{occ}
use Rattle.rings.proofs.Counting.{one_here, one_else}
use Rattle.job.specs.Limits.{POINTS}
use Rattle.marks.specs.Marks.{BITS, WORDS, marked, with_mark, all_below}
use Rattle.marks.proofs.Marking.{length_with, marked_with, none_marked}
use Rattle.store.specs.Words.{view}
use Rattle.store.specs.Named.{points_of, records_of}
use Rattle.store.specs.Sound.{ring_at}
use Rattle.audit.specs.Tests.{is_in, any_below}
use Rattle.visits.specs.Rings.{on_ring, alone}
use Rattle.visits.specs.Marks.{marks_on, marks_to}

length_marks : (l ms : List ℕ) → length (marks_on l ms) ≡ length ms
unfolding marks_on
length_marks [] ms = refl
length_marks (k ∷ l) ms = length_marks l (with_mark ms k) ∙ length_with ms (k / BITS) (2 ^ (k % BITS))

marks_long : (w : List ℕ) (i : ℕ) → length (marks_to w i) ≡ WORDS
unfolding marks_to
marks_long w zero = length-replicate {A = ℕ} WORDS 0
marks_long w (suc i) = length_marks (ring_at (view w) i) (marks_to w i) ∙ marks_long w i

or_false : (b : Bool) → b ≡ (b || false)
or_false true = refl
or_false false = refl

or_true : (b : Bool) → true ≡ (b || true)
or_true true = refl
or_true false = refl

module _ (k : ℕ) where
  in_here : (l : List ℕ) → is_in k (k ∷ l) ≡ true
  in_here l = lt-ltb 0 (occ k (k ∷ l)) (omega (arith, one_here k))

  pub in_else : (x : ℕ) (l : List ℕ) → x ≢ k → is_in k (x ∷ l) ≡ is_in k l
  in_else x l h =
      let e : occ k (x ∷ l) ≡ occ k l = omega (arith, one_else k x h) in
      ap (ltb 0) e

  after : (l ms : List ℕ) → k / BITS < length ms → marked (marks_on l ms) k ≡ (marked ms k || is_in k l)
  unfolding marks_on
  after [] ms h = or_false (marked ms k)
  after (x ∷ l) ms h = after l (with_mark ms x) (rw (length_with ms (x / BITS) (2 ^ (x % BITS))) h) ∙ ap (λ (b : Bool). b || is_in k l) (marked_with ms x k h) ∙ by (ℕ_discrete k x)
    where
      by : Dec (k ≡ x) → ((eqb k x || marked ms k) || is_in k l) ≡ (marked ms k || is_in k (x ∷ l))
      by (yes e) =
          let b : is_in k (x ∷ l) ≡ true = rw (← e) (in_here l) in
          rw (eq-eqb k x e, b) (or_true (marked ms k))
      by (no d) = rw (ne_eqb k x d, in_else x l (λ y. d (sym y)))

  marked_is : (w : List ℕ) (i : ℕ) → k < POINTS → marked (marks_to w i) k ≡ any_below i (λ j. on_ring w j k)
  unfolding marks_to any_below
  marked_is w zero h = none_marked k h
  marked_is w (suc i) h =
      after (ring_at (view w) i) (marks_to w i) (rw (marks_long w i) (omega arith))
      ∙ ap (λ (b : Bool). b || on_ring w i k) (marked_is w i h)

-- not every number below n, and some number below n that is not
not_all : (n : ℕ) (p q : ℕ → Bool) → ((k : ℕ) → k < n → q k ≡ not (p k)) → not (all_below n p) ≡ any_below n q
unfolding all_below any_below
not_all zero p q h = refl
not_all (suc n) p q h = by (all_below n p) ∙ rw (not_all n p q (λ k l. h k (omega arith)), h n (omega arith))
  where
    by : (b : Bool) → not (b && p n) ≡ (not b || not (p n))
    by true = refl
    by false = refl

pub unmarked_alone : (w : List ℕ) → points_of w ≤ POINTS → not (all_below (points_of w) (marked (marks_to w (records_of w)))) ≡ any_below (points_of w) (alone w)
unmarked_alone w h = not_all (points_of w) (marked (marks_to w (records_of w))) (alone w) (λ k l. sym (ap not (marked_is k w (records_of w) (omega arith))))
