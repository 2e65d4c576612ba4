-- How a walk along owners goes, hop by hop.
use mathlib.Core.Path.{◌≡◌, sym, ap, subst, ◌∙◌}
use mathlib.Core.Bool.{Bool, true, false, not, ◌&&◌}
use mathlib.Core.Logic.{◌≢◌}
use mathlib.Core.List.{List}
use Prim.Native.Nat.{ℕ, zero, suc, ◌+◌, ◌-◌, ◌<◌, ◌≤◌}
use native.Mathlib.Decide.{ℕ_discrete}
use native.Mathlib.Numerals.{sub-one, add-one}
use native.Mathlib.Omega.{arith}
use lib.Dec.{eqb, leb}
use borrow.Author.Tests.{eq-eqb, ne_eqb, leb-false}
use Rattle.job.specs.Limits.{RECORDS}
use Rattle.store.specs.Field.{NONE}
use Rattle.store.specs.Named.{records_of, first_of, owner_of}
use Rattle.audit.specs.Tests.{any_below}
use Rattle.audit.proofs.Saying.{none_of, all_none}
use Rattle.joins.specs.Resolve.{find_in}
use Rattle.owners.specs.Owners.{ends_in, circles, chained}
use Rattle.audit.proofs.Testing.{or_right}

module _ (owner : ℕ → ℕ) (q : ℕ) (F : Bool) where
  pub ends_here : (f o : ℕ) → 0 < f → o ≡ owner q → o ≡ NONE → not (ends_in f owner q) ≡ F → false ≡ F
  unfolding ends_in
  ends_here zero o z a b e = absurd (omega arith)
  ends_here (suc f) o z a b e = rw (eq-eqb (owner q) NONE (sym a ∙ b)) at e

  pub ends_on : (f o : ℕ) → 0 < f → o ≡ owner q → o ≢ NONE → not (ends_in f owner q) ≡ F → not (ends_in (f - 1) owner o) ≡ F
  unfolding ends_in
  ends_on zero o z a b e = absurd (omega arith)
  ends_on (suc f) o z a b e = rw (sub-one, a) (rw (ne_eqb (owner q) NONE (λ y. b (a ∙ y))) at e)

  pub ends_over : (f : ℕ) → f ≤ 0 → not (ends_in f owner q) ≡ F → true ≡ F
  unfolding ends_in
  ends_over zero z e = e
  ends_over (suc f) z e = absurd (omega arith)

module _ (first owner : ℕ → ℕ) (q F : ℕ) where
  pub here : (f a : ℕ) → 0 < f → a ≡ first q → a ≢ NONE → find_in f first owner q ≡ F → q ≡ F
  unfolding find_in
  here zero a z d b e = absurd (omega arith)
  here (suc f) a z d b e = rw (ne_eqb (first q) NONE (λ y. b (d ∙ y))) at e

  pub nowhere : (f a o : ℕ) → 0 < f → a ≡ first q → a ≡ NONE → o ≡ owner q → o ≡ NONE → find_in f first owner q ≡ F → NONE ≡ F
  unfolding find_in
  nowhere zero a o z d b g h e = absurd (omega arith)
  nowhere (suc f) a o z d b g h e = rw (eq-eqb (first q) NONE (sym d ∙ b), eq-eqb (owner q) NONE (sym g ∙ h)) at e

  -- j records to go after this one
  pub hop : (f j a o : ℕ) → f ≡ j + 1 → a ≡ first q → a ≡ NONE → o ≡ owner q → o ≢ NONE → find_in f first owner q ≡ F → find_in j first owner o ≡ F
  unfolding find_in
  hop f j a o z d b g h e = rw g (rw (eq-eqb (first q) NONE (sym d ∙ b), ne_eqb (owner q) NONE (λ y. h (g ∙ y))) at x)
    where
      x : find_in (suc j) first owner q ≡ F
      x = subst (λ (n : ℕ). find_in n first owner q ≡ F) (z ∙ add-one j) e

  pub spent : (f : ℕ) → f ≤ 0 → find_in f first owner q ≡ F → NONE ≡ F
  unfolding find_in
  spent zero z e = e
  spent (suc f) z e = absurd (omega arith)

-- where each owner is before its record, the chain from record i ends within i + 1 owners
module _ (owner : ℕ → ℕ) (n : ℕ) (h : (i : ℕ) → i < n → owner i ≢ NONE → owner i < i) where
  falls_ends : (f i : ℕ) → i < f → i < n → ends_in f owner i ≡ true
  unfolding ends_in
  falls_ends zero i l k = absurd (omega arith)
  falls_ends (suc f) i l k = by (ℕ_discrete (owner i) NONE) (λ d. falls_ends f (owner i) (omega (arith, h i k d)) (omega (arith, h i k d)))
    where
      by : Dec (owner i ≡ NONE) → (owner i ≢ NONE → ends_in f owner (owner i) ≡ true) → ends_in (suc f) owner i ≡ true
      by (yes e) r = rw (eq-eqb (owner i) NONE e)
      by (no d) r = rw (ne_eqb (owner i) NONE d) (r d)

pub none_chained : (w : List ℕ) → records_of w ≤ RECORDS → any_below (records_of w) (chained w) ≡ false → any_below (records_of w) (circles w) ≡ false
none_chained w l e = all_none (records_of w) (circles w) (λ i k. ap not (falls_ends (owner_of w) (records_of w) before RECORDS i (omega arith) k))
  where
    before : (i : ℕ) → i < records_of w → owner_of w i ≢ NONE → owner_of w i < i
    before i k d =
        let a : (not (eqb (owner_of w i) NONE) && leb i (owner_of w i)) ≡ false = or_right (eqb (first_of w i) NONE) (not (eqb (owner_of w i) NONE) && leb i (owner_of w i)) (none_of (records_of w) (chained w) e i k) in
        leb-false i (owner_of w i) (rw (ne_eqb (owner_of w i) NONE d) at a)
