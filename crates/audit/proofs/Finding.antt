-- What `any` over the numbers below n answers, where the closure computes a test: whether the test holds of one of them.
use Prim.Native.Nat.{ℕ, ◌<◌}
use Rattle.std.proofs.Common.{◌≡◌, refl, sym, subst, Bool, true, false, List, length, get_or, arith}
use denote.Param.Members.{Mut}
use Rattle.std.specs.Prelude.{Option}
use Rattle.std.specs.declared.ops.Range.{Range}
use Rattle.std.specs.List.{range_with_len, FoldsTo, AllWithin, HoldsAt}
use Rattle.std.specs.Bool.{MatchBool}
use Rattle.std.specs.Fn.{Called}
use Rattle.std.specs.Iterator.{YieldsThen}
use Rattle.std.specs.Option.{MatchOption}
use Rattle.std.proofs.iter.Yields.{nat_range_steps}
use Rattle.std.proofs.lemmas.Iterator.{YieldsList-from_range, cases_from_any}
use Rattle.std.proofs.lemmas.List.FromFn.{length-range_with_len, get_or-range_with_len}
use Rattle.audit.specs.Tests.{any_below}
use Rattle.audit.proofs.Testing.{first}
use Rattle.audit.proofs.Saying.{all_none}

module _ (n : ℕ) (q : ℕ → Bool) where
  at_place : (k : ℕ) → k < n → get_or (range_with_len 0 n) k 0 ≡ k
  at_place k l = omega (arith, get_or-range_with_len 0 n k 0 l)

  said : (r : Bool) → MatchBool r ((k : ℕ) × (k < length (range_with_len 0 n)) × HoldsAt (λ x. q x ≡ true) (range_with_len 0 n) k) (AllWithin (λ x. q x ≡ false) (range_with_len 0 n) 0 (length (range_with_len 0 n))) → r ≡ any_below n q
  said true h =
      let l : h.0 < n = omega (arith, length-range_with_len 0 n) in
      first q n h.0 true l (sym (subst (λ (x : ℕ). q x ≡ true) (at_place h.0 l) (h.2 0))) refl
  said false h = sym (all_none n q (λ k l. subst (λ (x : ℕ). q x ≡ false) (at_place k l) (h k 0 (omega arith) (omega (arith, length-range_with_len 0 n)))))

  -- the call's clause `ran`, the range, and that the closure keeps its state and computes the test
  pub any_below-by_any : {F : Type 0} {g : Mut F (ℕ × Unit {0}) Bool} {s : Range ℕ} (u : Range ℕ) (f : F) (r : Bool)
      → (xs : List ℕ) × (o : Option ℕ) × (j : F) × YieldsThen nat_range_steps s xs o u × FoldsTo (λ p x t. Called g p (x, tt) false t) f xs j × MatchOption o (r ≡ false) (λ x. (r ≡ true) × ((h : F) × Called g j (x, tt) true h))
      → s ≡ record { start = 0; end = n }
      → ((x : ℕ) (b : Bool) (t : F) → Called g f (x, tt) b t → (t ≡ f) × (b ≡ q x))
      → r ≡ any_below n q
  any_below-by_any u f r d e k =
      said r (cases_from_any u f r (λ x. q x ≡ true) (λ x. q x ≡ false) d (YieldsList-from_range 0 n n e (omega arith)) (λ x t c. sym (k x true t c).1) (λ x t c. ((k x false t c).0, sym (k x false t c).1)))
