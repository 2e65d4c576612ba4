-- The first of some numbers that passes a test.
use Prim.Native.Nat.{ℕ, zero, suc, ◌+◌, ◌≤◌, ◌<◌}
use mathlib.Core.Path.{◌≡◌, refl, ap, ◌∙◌, sym, subst}
use mathlib.Core.Bool.{Bool, true, false, cond}
use mathlib.Core.List.{List}
use native.Mathlib.Omega.{arith}
use native.Mathlib.Decide.{dec_lt}
use lib.Dec.{eqb}
use borrow.Author.Tests.{lt-ltb, le-ltb}
use Rattle.store.specs.Field.{STATES}
use Rattle.store.specs.States.{name_at}
use Rattle.std.specs.Prelude.{Option, None, Some}
use Rattle.std.specs.Option.{MatchOption}
use Rattle.states.specs.Places.{first_from, lowest, keeps_name, place_of, free_place, keep_place, Names}

-- ---- the first

module _ (q : ℕ → Bool) where
  pub first_is : (n p k : ℕ) → p ≤ k → k < p + n → q k ≡ true → ((j : ℕ) → p ≤ j → j < k → q j ≡ false) → first_from n q p ≡ k
  unfolding first_from
  first_is zero p k l h t m = absurd (omega arith)
  first_is (suc n) p k l h t m = go (dec_lt p k) (λ a. first_is n (suc p) k a (omega arith) t (λ j b c. m j (omega arith) c))
    where
      go : Dec (p < k) → (suc p ≤ k → first_from n q (suc p) ≡ k) → cond (q p) p (first_from n q (suc p)) ≡ k
      go (yes a) r = rw (m p (omega arith) a) (r (omega arith))
      go (no a) r = let e : p ≡ k = omega arith in rw (ap q e ∙ t) e

  pub first_none : (n p : ℕ) → ((j : ℕ) → p ≤ j → j < p + n → q j ≡ false) → first_from n q p ≡ p + n
  unfolding first_from
  first_none zero p m = omega arith
  first_none (suc n) p m =
      let e : suc p + n ≡ p + suc n = omega arith in
      rw (m p (omega arith) (omega arith)) (first_none n (suc p) (λ j a b. m j (omega arith) (omega arith)) ∙ e)

  pub first_hits : (n p : ℕ) → first_from n q p < p + n → q (first_from n q p) ≡ true
  unfolding first_from
  first_hits zero p h = absurd (omega arith)
  first_hits (suc n) p h = go (q p) refl h (λ a. first_hits n (suc p) a)
    where
      go : (b : Bool) → q p ≡ b → cond b p (first_from n q (suc p)) < p + suc n → (first_from n q (suc p) < suc p + n → q (first_from n q (suc p)) ≡ true) → q (cond b p (first_from n q (suc p))) ≡ true
      go true e a r = e
      go false e a r = r (omega arith)

  pub first_low : (n p : ℕ) → first_from n q p ≤ p + n
  unfolding first_from
  first_low zero p = omega arith
  first_low (suc n) p = go (q p) (first_low n (suc p))
    where
      go : (b : Bool) → first_from n q (suc p) ≤ suc p + n → cond b p (first_from n q (suc p)) ≤ p + suc n
      go true a = omega arith
      go false a = omega arith

  pub first_misses : (n p : ℕ) → p + n ≤ first_from n q p → (j : ℕ) → p ≤ j → j < p + n → q j ≡ false
  unfolding first_from
  first_misses zero p h j a b = absurd (omega arith)
  first_misses (suc n) p h j a b = go (q p) refl h (dec_lt p j) (λ c d. first_misses n (suc p) c j d (omega arith))
    where
      go : (x : Bool) → q p ≡ x → p + suc n ≤ cond x p (first_from n q (suc p)) → Dec (p < j) → (suc p + n ≤ first_from n q (suc p) → suc p ≤ j → q j ≡ false) → q j ≡ false
      go true e c d r = absurd (omega arith)
      go false e c (yes d) r = r (omega arith) (omega arith)
      go false e c (no d) r = let z : j ≡ p = omega arith in ap q z ∙ e

  pub first_same : (r : ℕ → Bool) (n p : ℕ) → ((j : ℕ) → p ≤ j → j < p + n → q j ≡ r j) → first_from n q p ≡ first_from n r p
  unfolding first_from
  first_same r zero p h = refl
  first_same r (suc n) p h =
      ap (λ (b : Bool). cond b p (first_from n q (suc p))) (h p (omega arith) (omega arith))
      ∙ ap (cond (r p) p) (first_same r n (suc p) (λ j a b. h j (omega arith) (omega arith)))

-- ---- for the code

pub keeps_is : (w : List ℕ) (n p v : ℕ) → v ≡ name_at w p → eqb v (n + 1) ≡ keeps_name w n p
keeps_is w n p v e = let z : n + 1 ≡ suc n = omega arith in ap (λ (x : ℕ). eqb x (n + 1)) e ∙ ap (eqb (name_at w p)) z

-- what `find` over the places answers, where the closure computes the test
pub lowest-by_find : (q : ℕ → Bool) (r : Option ℕ) → MatchOption r ((k : ℕ) → 0 ≤ k → k < STATES → q k ≡ false) (λ i. (0 ≤ i) × (i < STATES) × (q i ≡ true) × ((k : ℕ) → 0 ≤ k → k < i → q k ≡ false)) → Names r (lowest q)
lowest-by_find q None h = record { low = tt; is = sym (first_none q STATES 0 (λ j a b. h j a (omega arith))) }
lowest-by_find q (Some i) h = record { low = h.1; is = sym (first_is q STATES 0 i h.0 (omega (arith, h.1)) h.2 h.3) }

pub own_place : (w : List ℕ) (n : ℕ) (p : ℕ) → Names (Some p) (place_of w n) → Names (Some p) (keep_place w n)
own_place w n p g = record { low = g.low; is = let l : place_of w n < STATES = subst (λ (k : ℕ). k < STATES) g.is g.low in rw (lt-ltb (place_of w n) STATES l) g.is }

pub new_place : (w : List ℕ) (n : ℕ) (r : Option ℕ) → Names None (place_of w n) → Names r (free_place w) → Names r (keep_place w n)
new_place w n r g f = record { low = f.low; is = let l : STATES ≤ place_of w n = omega (arith, g.is) in rw (le-ltb (place_of w n) STATES l) f.is }
