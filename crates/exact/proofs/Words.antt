-- Whole numbers in words of 32 and 64 bits: what fits, and what a word holds after a sum, a difference or a product.
use mathlib.Core.Path.{◌≡◌, refl, sym, ap, ◌∙◌}
use mathlib.Core.Bool.{Bool, true, false}
use Prim.Native.Nat.{ℕ, ◌+◌, ◌*◌, ◌≤◌, ◌<◌, ◌^◌}
use native.Mathlib.Nat.{le_of_lt, lt_of_le_of_lt}
use native.Mathlib.Omega.{arith}
use borrow.Author.Tests.{eq-eqb, ne_eqb}
use lib.Dec.{T, ltb, eqb, ltb→lt}
use lib.IntN.{ℤ, pos, negsuc, nat_abs, ◌+ℤ◌, ◌-ℤ◌, ◌*ℤ◌}
use mir.Syntax.{Width, w32, w64}
use mir.Val.{SFits, of_z, to_z}
use mir.Facts.{to_z-of_z}
use Rattle.exact.specs.Num.{Within}
use Rattle.exact.specs.Equal.{eq_z}
use Rattle.exact.proofs.Size.{size_add, size_sub, within_add, within_sub, within_mul, fits_size, eq_z_true, eq_z_false}

-- equal bits, equal numbers
pub bits_eq_z : (w : Width) (a b : ℤ) → SFits w a → SFits w b → eqb (of_z w a) (of_z w b) ≡ eq_z a b
bits_eq_z w a b h k = go (eq_z a b) (eq_z_true a b) (eq_z_false a b)
  where
    go : (t : Bool) → (t ≡ true → a ≡ b) → (t ≡ false → a ≡ b → ⊥) → eqb (of_z w a) (of_z w b) ≡ t
    go true y n = eq-eqb (of_z w a) (of_z w b) (ap (of_z w) (y refl))
    go false y n = ne_eqb (of_z w a) (of_z w b) (λ e. n refl (sym (to_z-of_z h) ∙ ap (to_z w) e ∙ to_z-of_z k))

-- ---- numbers of 32 bits, made numbers of 64
small_32 : (z : ℤ) → SFits w32 z → nat_abs z ≤ 2 ^ 31
small_32 (pos n) h = le_of_lt h.sfits
small_32 (negsuc n) h = h.sfits

module _ {z : ℤ} (h : SFits w32 z) where
  wide : SFits w64 z
  wide = let s = small_32 z h in fits_size w64 z (omega arith)

  pub cast_wide : SFits w64 (to_z w32 (of_z w32 z))
  cast_wide = rw (to_z-of_z h) wide

  pub wide_is : to_z w64 (of_z w64 (to_z w32 (of_z w32 z))) ≡ z
  wide_is = rw (to_z-of_z h) (to_z-of_z wide)

module _ {a b : ℤ} (h : SFits w32 a) (k : SFits w32 b) where
  pub sub_wide : SFits w64 (a -ℤ b)
  sub_wide = let s = small_32 a h in let t = small_32 b k in let u = size_sub a b in fits_size w64 (a -ℤ b) (omega arith)

  pub add_wide : SFits w64 (a +ℤ b)
  add_wide = let s = small_32 a h in let t = small_32 b k in let u = size_add a b in fits_size w64 (a +ℤ b) (omega arith)

-- ---- what is read back of a word
abbrev pub i32 : ℤ → ℤ
i32 z = to_z w32 (of_z w32 z)

abbrev pub i64 : ℤ → ℤ
i64 z = to_z w64 (of_z w64 z)

-- r is z, of size at most m: r as the code has it, z as the definition says it
pub record Held (r z : ℤ) (m : ℕ) : Type 0 where
  pub is : r ≡ z
  pub within : Within m z

pub held_here : {z : ℤ} {m : ℕ} → Within m z → Held z z m
held_here h = record { is = refl; within = h }

pub held_is : {r s z : ℤ} {m : ℕ} → r ≡ s → Held s z m → Held r z m
held_is e h = record { is = e ∙ h.is; within = h.within }

small : {k m j : ℕ} → k ≤ m → T (ltb m j) → k < j
small {k} {m} {j} h t = lt_of_le_of_lt h (ltb→lt m j t)

module _ {r z : ℤ} {m : ℕ} (h : Held r z m) where
  pub fits_64 : T (ltb m (2 ^ 63)) → SFits w64 r
  fits_64 t = rw h.is (fits_size w64 z (small h.within.size t))

  pub held_64 : T (ltb m (2 ^ 63)) → Held (i64 r) z m
  held_64 t = record { is = to_z-of_z (fits_64 t) ∙ h.is; within = h.within }

  pub fits_32 : T (ltb m (2 ^ 31)) → SFits w32 r
  fits_32 t = rw h.is (fits_size w32 z (small h.within.size t))

  pub held_32 : T (ltb m (2 ^ 31)) → Held (i32 r) z m
  held_32 t = record { is = to_z-of_z (fits_32 t) ∙ h.is; within = h.within }

  -- as a callee asks it
  pub asked : Within m r
  asked = rw h.is h.within

module _ {r s y z : ℤ} {m n : ℕ} (h : Held r y m) (k : Held s z n) where
  pub held_add : Held (r +ℤ s) (y +ℤ z) (m + n)
  held_add = record { is = rw (h.is, k.is); within = within_add h.within k.within }

  pub held_sub : Held (r -ℤ s) (y -ℤ z) (m + n)
  held_sub = record { is = rw (h.is, k.is); within = within_sub h.within k.within }

  pub held_mul : Held (r *ℤ s) (y *ℤ z) (m * n)
  held_mul = record { is = rw (h.is, k.is); within = within_mul h.within k.within }

  -- a test of equality, by the bits
  pub held_eq : T (ltb m (2 ^ 63)) → T (ltb n (2 ^ 63)) → eqb (of_z w64 r) (of_z w64 s) ≡ eq_z y z
  held_eq t u = bits_eq_z w64 r s (fits_64 h t) (fits_64 k u) ∙ rw (h.is, k.is)

-- a coordinate, and any number of at most 31 bits, is read back as it was
pub back_32 : {z : ℤ} {m : ℕ} → Within m z → T (ltb m (2 ^ 31)) → i32 z ≡ z
back_32 h t = (held_32 (held_here h) t).is
