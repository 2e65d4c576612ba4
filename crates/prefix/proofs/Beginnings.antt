-- Two lists that begin alike, `take n s ≡ take n t`: what is asked of the first n bytes alone is answered alike.
use mathlib.Core.Path.{◌≡◌, refl, sym, ap, ◌∙◌}
use mathlib.Core.Bool.{Bool, true, false}
use mathlib.Core.List.{List, [], ◌∷◌}
use Prim.Native.Nat.{ℕ, zero, suc, ◌+◌, ◌<◌, ◌≤◌, min}
use native.Mathlib.Nat.{zero-add, suc-add}
use native.Mathlib.Omega.{arith}
use lib.Dec.{ltb, eqb}
use lib.ListN.{length, get_or, take, drop, length-take}
use lib.Seq.{get_or-take, take-nil, take-take}
use borrow.Author.Tests.{ltb-true, ltb-false, lt-ltb, le-ltb, eqb-true, eqb-false, eq-eqb, ne_eqb}
use Rattle.numbers.specs.Bytes.{le}
use Rattle.numbers.proofs.Widths.{same_bytes}

-- the first k + m without the first k
drop_take : (k m : ℕ) (l : List ℕ) → drop k (take (k + m) l) ≡ take m (drop k l)
drop_take zero m l = ap (λ (i : ℕ). take i l) (zero-add m)
drop_take (suc k) m [] = ap (drop (suc k)) (take-nil (suc k + m)) ∙ sym (take-nil m)
drop_take (suc k) m (x ∷ xs) = ap (λ (i : ℕ). drop (suc k) (take i (x ∷ xs))) (suc-add k m) ∙ drop_take k m xs

-- lengths that agree up to n compare alike with anything up to n
short : (n a b m : ℕ) → min n a ≡ min n b → m ≤ n → ltb a m ≡ ltb b m
short n a b m e l = by (ltb b m) refl
  where
    by : (t : Bool) → ltb b m ≡ t → ltb a m ≡ t
    by true h = let k = ltb-true b m h in lt-ltb a m (omega arith)
    by false h = let k = ltb-false b m h in le-ltb a m (omega arith)

long : (n a b m : ℕ) → min n a ≡ min n b → m < n → ltb m a ≡ ltb m b
long n a b m e l = by (ltb m b) refl
  where
    by : (t : Bool) → ltb m b ≡ t → ltb m a ≡ t
    by true h = let k = ltb-true m b h in lt-ltb m a (omega arith)
    by false h = let k = ltb-false m b h in le-ltb m a (omega arith)

none : (n a b : ℕ) → min n a ≡ min n b → 0 < n → eqb a 0 ≡ eqb b 0
none n a b e l = by (eqb b 0) refl
  where
    by : (t : Bool) → eqb b 0 ≡ t → eqb a 0 ≡ t
    by true h = let k = eqb-true b 0 h in eq-eqb a 0 (omega arith)
    by false h = let k = eqb-false b 0 h in ne_eqb a 0 (λ z. k (omega arith))

module _ (n : ℕ) (s t : List ℕ) (e : take n s ≡ take n t) where
  lengths : min n (length s) ≡ min n (length t)
  lengths = sym (length-take n s) ∙ ap length e ∙ length-take n t

  pub short_same : (m : ℕ) → m ≤ n → ltb (length s) m ≡ ltb (length t) m
  short_same m l = short n (length s) (length t) m lengths l

  pub long_same : (m : ℕ) → m < n → ltb m (length s) ≡ ltb m (length t)
  long_same m l = long n (length s) (length t) m lengths l

  pub empty_same : 0 < n → eqb (length s) 0 ≡ eqb (length t) 0
  empty_same l = none n (length s) (length t) lengths l

  pub byte_same : (i : ℕ) → i < n → get_or s i 0 ≡ get_or t i 0
  byte_same i l = sym (get_or-take n s i 0 l) ∙ ap (λ (r : List ℕ). get_or r i 0) e ∙ get_or-take n t i 0 l

  pub number_same : (w at : ℕ) → at + w ≤ n → le w at s ≡ le w at t
  number_same w at l = same_bytes w at s t (λ k h. byte_same (at + k) (omega arith))

  -- the parts from k on begin alike too
  pub rest_same : (k m : ℕ) → k + m ≡ n → take m (drop k s) ≡ take m (drop k t)
  rest_same k m l = sym (drop_take k m s) ∙ ap (drop k) (ap (λ (i : ℕ). take i s) l ∙ e ∙ ap (λ (i : ℕ). take i t) (sym l)) ∙ drop_take k m t

  pub fewer_same : (m : ℕ) → m ≤ n → take m s ≡ take m t
  fewer_same m l = sym (take-take m n s l) ∙ ap (take m) e ∙ take-take m n t l
