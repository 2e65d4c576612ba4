-- A table of what is known of records: nothing at first, then what is set.
use mathlib.Core.Path.{◌≡◌, refl, sym, subst, ◌∙◌}
use mathlib.Core.Bool.{Bool, true, false}
use mathlib.Core.Logic.{◌≢◌}
use mathlib.Core.List.{List, [], ◌∷◌}
use Prim.Native.Nat.{ℕ, zero, suc, ◌<◌, ◌≤◌}
use native.Mathlib.Decide.{ℕ_discrete}
use native.Mathlib.Omega.{arith}
use lib.Dec.{ltb}
use lib.ListN.{length, get_or, set, replicate, length-replicate, get_or-replicate, get_or-eq_default}
use lib.Seq.{set_out, get_or-set_same, get_or-set_other}
use borrow.Author.Tests.{ltb-true, ltb-false}
use Rattle.owners.specs.Tables.{UNKNOWN, entry}

same_in : (t : List ℕ) (r d e : ℕ) → r < length t → get_or t r d ≡ get_or t r e
same_in [] r d e h = absurd (omega arith)
same_in (x ∷ t) zero d e h = refl
same_in (x ∷ t) (suc r) d e h = same_in t r d e (omega arith)

pub entry_in : (t : List ℕ) (r n : ℕ) → r < length t → n ≡ get_or t r 0 → n ≡ entry t r
entry_in t r n h e = e ∙ same_in t r 0 UNKNOWN h

pub entry_out : (t : List ℕ) (r : ℕ) → length t ≤ r → UNKNOWN ≡ entry t r
entry_out t r h = sym (get_or-eq_default t UNKNOWN {n = r} h)

pub blank : (n r : ℕ) → entry (replicate n UNKNOWN) r ≡ UNKNOWN
blank n r = by (ltb r n) refl
  where
    by : (b : Bool) → ltb r n ≡ b → entry (replicate n UNKNOWN) r ≡ UNKNOWN
    by true e = get_or-replicate {A = ℕ} n r UNKNOWN UNKNOWN (ltb-true r n e)
    by false e = get_or-eq_default (replicate n UNKNOWN) UNKNOWN {n = r} (rw (length-replicate {A = ℕ} n UNKNOWN) (ltb-false r n e))

-- what holds of every known number, and of n as the number of r, holds once it is set
module _ (P : ℕ → ℕ → Type 0) (t : List ℕ) (r n : ℕ) (h : (x : ℕ) → entry t x ≢ UNKNOWN → P x (entry t x)) (p : P r n) where
  pub known_set : (x : ℕ) → entry (set t r n) x ≢ UNKNOWN → P x (entry (set t r n) x)
  known_set x k = by (ltb r (length t)) refl (ℕ_discrete x r)
    where
      by : (b : Bool) → ltb r (length t) ≡ b → Dec (x ≡ r) → P x (entry (set t r n) x)
      by false e d =
          let s : set t r n ≡ t = set_out t r n (ltb-false r (length t) e) in
          subst (λ (l : List ℕ). entry l x ≢ UNKNOWN → P x (entry l x)) (sym s) (h x) k
      by true e (yes d) =
          let s : entry (set t r n) r ≡ n = get_or-set_same t r n UNKNOWN (ltb-true r (length t) e) in
          subst (λ (y : ℕ). P y (entry (set t r n) y)) (sym d) (subst (P r) (sym s) p)
      by true e (no d) =
          let s : entry (set t r n) x ≡ entry t x = get_or-set_other t r x n UNKNOWN d in
          subst (P x) (sym s) (h x (λ y. k (s ∙ y)))

-- what is right of a record's number stays so, if r's new one is right
module _ (v : ℕ → ℕ) (t : List ℕ) (r n : ℕ) (p : n ≡ v r) where
  pub right_set : (x : ℕ) → entry t x ≡ v x → entry (set t r n) x ≡ v x
  right_set x e = by (ltb r (length t)) refl (ℕ_discrete x r)
    where
      by : (b : Bool) → ltb r (length t) ≡ b → Dec (x ≡ r) → entry (set t r n) x ≡ v x
      by false f d = rw (set_out t r n (ltb-false r (length t) f)) e
      by true f (yes d) = rw d (get_or-set_same t r n UNKNOWN (ltb-true r (length t) f) ∙ p)
      by true f (no d) = get_or-set_other t r x n UNKNOWN d ∙ e

  pub right_here : r < length t → entry (set t r n) r ≡ v r
  right_here h = get_or-set_same t r n UNKNOWN h ∙ p
