-- What `any` over the first n numbers of a list answers, where the closure computes a test: whether the test holds of one of them.
use Prim.Native.Nat.{ℕ, zero, suc, ◌<◌, ◌≤◌}
use Rattle.std.proofs.Common.{◌≡◌, refl, sym, subst, Bool, true, false, List, length, get_or, take, arith}
use Rattle.std.proofs.lemmas.List.{get_or-take, length-take-le}
use Rattle.std.specs.List.{AllWithin, HoldsAt}
use Rattle.std.specs.Bool.{MatchBool}
use Rattle.audit.specs.Tests.{any_below}
use Rattle.audit.proofs.Testing.{first}
use Rattle.audit.proofs.Saying.{all_none}

-- the same of each number below n
pub any_below_same : (n : ℕ) (p q : ℕ → Bool) → ((k : ℕ) → k < n → p k ≡ q k) → any_below n p ≡ any_below n q
unfolding any_below
any_below_same zero p q h = refl
any_below_same (suc n) p q h = rw (any_below_same n p q (λ k l. h k (omega arith)), h n (omega arith))

module _ (l xs : List ℕ) (n : ℕ) (q : ℕ → Bool) (e : xs ≡ take n l) (g : n ≤ length l) where
  long : length xs ≡ n
  long = rw e (length-take-le n l g)

  at_place : (k : ℕ) → k < n → get_or xs k 0 ≡ get_or l k 0
  at_place k h = rw e (get_or-take n l k 0 h)

  pub any_listed : (r : Bool) → MatchBool r ((k : ℕ) × (k < length xs) × HoldsAt (λ x. q x ≡ true) xs k) (AllWithin (λ x. q x ≡ false) xs 0 (length xs)) → r ≡ any_below n (λ i. q (get_or l i 0))
  any_listed true h =
      let k : h.0 < n = omega (arith, long) in
      first (λ i. q (get_or l i 0)) n h.0 true k (sym (subst (λ (x : ℕ). q x ≡ true) (at_place h.0 k) (h.2 0))) refl
  any_listed false h = sym (all_none n (λ i. q (get_or l i 0)) (λ k m. subst (λ (x : ℕ). q x ≡ false) (at_place k m) (h k 0 (omega arith) (omega (arith, long)))))
