-- Sizes of whole numbers: a sum, a difference and a product; what fits a width; the test of equality.
use mathlib.Core.Path.{◌≡◌, refl, sym, ap, ◌∙◌}
use mathlib.Core.Bool.{Bool, true, false, cond, true≢false, false≢true}
use Prim.Native.Nat.{ℕ, zero, suc, ◌+◌, ◌-◌, ◌*◌, ◌≤◌, ◌<◌, ◌^◌}
use native.Mathlib.Nat.{le_refl, le_trans, le_of_eq, mul-le-mul_left, mul-le-mul_right}
use native.Mathlib.Omega.{arith}
use borrow.Author.Tests.{ltb-true, eqb-true, eq-eqb}
use lib.Dec.{ltb}
use lib.IntN.{ℤ, pos, negsuc, neg_ℤ, nat_abs, sub_ℕ, ◌+ℤ◌, ◌-ℤ◌, ◌*ℤ◌}
use mir.Syntax.{Width}
use mir.Val.{SFits, hbits}
use Rattle.exact.specs.Num.{Within}
use Rattle.exact.specs.Equal.{eq_z}

size_subℕ : (a b : ℕ) → nat_abs (sub_ℕ a b) ≤ a + b
size_subℕ a b = go (ltb a b) (ltb-true a b)
  where
    go : (t : Bool) → (t ≡ true → a < b) → nat_abs (cond t (negsuc (b - suc a)) (pos (a - b))) ≤ a + b
    go true h = let k : a < b = h refl in omega arith
    go false h = omega arith

pub size_neg : (a : ℤ) → nat_abs (neg_ℤ a) ≡ nat_abs a
size_neg (pos zero) = refl
size_neg (pos (suc n)) = refl
size_neg (negsuc n) = refl

pub size_add : (a b : ℤ) → nat_abs (a +ℤ b) ≤ nat_abs a + nat_abs b
size_add (pos a) (pos b) = le_refl (a + b)
size_add (pos a) (negsuc b) = size_subℕ a (suc b)
size_add (negsuc a) (pos b) = let h : nat_abs (sub_ℕ b (suc a)) ≤ b + suc a = size_subℕ b (suc a) in omega arith
size_add (negsuc a) (negsuc b) = omega arith

pub size_sub : (a b : ℤ) → nat_abs (a -ℤ b) ≤ nat_abs a + nat_abs b
size_sub a b = let h : nat_abs (a -ℤ b) ≤ nat_abs a + nat_abs (neg_ℤ b) = size_add a (neg_ℤ b) in let e : nat_abs (neg_ℤ b) ≡ nat_abs b = size_neg b in omega arith

size_neg_pos : (n : ℕ) → nat_abs (neg_ℤ (pos n)) ≡ n
size_neg_pos zero = refl
size_neg_pos (suc n) = refl

pub size_mul : (a b : ℤ) → nat_abs (a *ℤ b) ≡ nat_abs a * nat_abs b
size_mul (pos a) (pos b) = refl
size_mul (pos a) (negsuc b) = size_neg_pos (a * suc b)
size_mul (negsuc a) (pos b) = size_neg_pos (suc a * b)
size_mul (negsuc a) (negsuc b) = refl

module _ {a b : ℤ} {m n : ℕ} (h : Within m a) (k : Within n b) where
  pub within_add : Within (m + n) (a +ℤ b)
  within_add = record { size = (let s = size_add a b in let p = h.size in let q = k.size in omega arith) }

  pub within_sub : Within (m + n) (a -ℤ b)
  within_sub = record { size = (let s = size_sub a b in let p = h.size in let q = k.size in omega arith) }

  pub within_mul : Within (m * n) (a *ℤ b)
  within_mul = record { size = le_trans (le_of_eq (size_mul a b)) (le_trans (mul-le-mul_right (nat_abs b) h.size) (mul-le-mul_left m k.size)) }

pub fits_size : (w : Width) (z : ℤ) → nat_abs z < 2 ^ hbits w → SFits w z
fits_size w (pos n) h = record { sfits = h }
fits_size w (negsuc n) h = record { sfits = go n (2 ^ hbits w) h }
  where
    go : (n m : ℕ) → suc n < m → n < m
    go n m h = omega arith

-- ---- the test eqZ
pub eq_z_true : (a b : ℤ) → eq_z a b ≡ true → a ≡ b
eq_z_true (pos a) (pos b) e = ap pos (eqb-true a b e)
eq_z_true (pos a) (negsuc b) e = absurd (false≢true e)
eq_z_true (negsuc a) (pos b) e = absurd (false≢true e)
eq_z_true (negsuc a) (negsuc b) e = ap negsuc (eqb-true a b e)

pub eq_z_refl : (a : ℤ) → eq_z a a ≡ true
eq_z_refl (pos a) = eq-eqb a a refl
eq_z_refl (negsuc a) = eq-eqb a a refl

pub eq_eq_z : (a b : ℤ) → a ≡ b → eq_z a b ≡ true
eq_eq_z a b e = rw e (eq_z_refl b)

pub eq_z_false : (a b : ℤ) → eq_z a b ≡ false → a ≡ b → ⊥
eq_z_false a b h e = true≢false (sym (eq_eq_z a b e) ∙ h)

pub ne_eq_z : (a b : ℤ) → (a ≡ b → ⊥) → eq_z a b ≡ false
ne_eq_z a b f = go (eq_z a b) (eq_z_true a b)
  where
    go : (t : Bool) → (t ≡ true → a ≡ b) → t ≡ false
    go true y = absurd (f (y refl))
    go false y = refl
