-- Linear arithmetic over ℤ by omega: a whole number is the difference of two naturals, its positive part `pp` and its negative part `np`.
use mathlib.Core.Path.{◌≡◌, refl, sym, ap, ◌∙◌}
use mathlib.Core.Logic.{◌⊎◌, inl, inr}
use mathlib.Core.Bool.{Bool, true, false, cond, not}
use Prim.Native.Nat.{ℕ, zero, suc, ◌+◌, ◌-◌, ◌*◌, ◌≤◌, ◌<◌}
use native.Mathlib.Nat.{zero-mul, add-mul, le_trans, le_of_eq, mul-le-mul_right}
use native.Mathlib.Omega.{arith}
use borrow.Author.Tests.{ltb-true, ltb-false}
use lib.Dec.{T, ltb, leb→le, le→leb, lt→ltb, nleb→lt}
use lib.IntN.{ℤ, pos, negsuc, neg_ℤ, nat_abs, sub_ℕ, ◌+ℤ◌, ◌-ℤ◌, ◌*ℤ◌}
use lib.Signed.{le_z, lt_z}

abbrev pub pp : ℤ → ℕ
pp (pos n) = n
pp (negsuc n) = 0

abbrev pub np : ℤ → ℕ
np (pos n) = 0
np (negsuc n) = suc n

-- a ≤ b, as omega reads it
infix 4 ◌≤ᶻ◌
pub record ◌≤ᶻ◌ (a b : ℤ) : Type 0 where
  pub parts : pp a + np b ≤ pp b + np a

parts_subℕ : (a b : ℕ) → pp (sub_ℕ a b) + b ≡ np (sub_ℕ a b) + a
parts_subℕ a b = go (ltb a b) (ltb-true a b) (ltb-false a b)
  where
    go : (t : Bool) → (t ≡ true → a < b) → (t ≡ false → b ≤ a) → pp (cond t (negsuc (b - suc a)) (pos (a - b))) + b ≡ np (cond t (negsuc (b - suc a)) (pos (a - b))) + a
    go true p q = let h : a < b = p refl in omega arith
    go false p q = let h : b ≤ a = q refl in omega arith

pub parts_add : (a b : ℤ) → pp (a +ℤ b) + (np a + np b) ≡ np (a +ℤ b) + (pp a + pp b)
parts_add (pos a) (pos b) = omega arith
parts_add (pos a) (negsuc b) = let h = parts_subℕ a (suc b) in omega (arith, h)
parts_add (negsuc a) (pos b) = let h = parts_subℕ b (suc a) in omega (arith, h)
parts_add (negsuc a) (negsuc b) = omega arith

pub pp_neg : (a : ℤ) → pp (neg_ℤ a) ≡ np a
pp_neg (pos zero) = refl
pp_neg (pos (suc n)) = refl
pp_neg (negsuc n) = refl

pub np_neg : (a : ℤ) → np (neg_ℤ a) ≡ pp a
np_neg (pos zero) = refl
np_neg (pos (suc n)) = refl
np_neg (negsuc n) = refl

pub parts_sub : (a b : ℤ) → pp (a -ℤ b) + (np a + pp b) ≡ np (a -ℤ b) + (pp a + np b)
parts_sub a b = rw (pp_neg b, np_neg b) at (parts_add a (neg_ℤ b))

pub pp_mul : (a : ℤ) (k : ℕ) → pp (a *ℤ pos k) ≡ pp a * k
pp_mul (pos n) k = refl
pp_mul (negsuc n) k = pp_neg (pos (suc n * k)) ∙ sym (zero-mul k)

pub np_mul : (a : ℤ) (k : ℕ) → np (a *ℤ pos k) ≡ np a * k
np_mul (pos n) k = sym (zero-mul k)
np_mul (negsuc n) k = np_neg (pos (suc n * k))

-- one of the parts is 0
pub parts_size : (a : ℤ) → pp a + np a ≡ nat_abs a
parts_size (pos n) = omega arith
parts_size (negsuc n) = omega arith

pub le_z_parts : (a b : ℤ) → T (le_z a b) → a ≤ᶻ b
le_z_parts (pos a) (pos b) t = let h = leb→le a b t in record { parts = omega arith }
le_z_parts (pos a) (negsuc b) t = absurd t
le_z_parts (negsuc a) (pos b) t = record { parts = omega arith }
le_z_parts (negsuc a) (negsuc b) t = let h = leb→le b a t in record { parts = omega arith }

pub parts_le_z : (a b : ℤ) → a ≤ᶻ b → T (le_z a b)
parts_le_z (pos a) (pos b) h = let k = h.parts in le→leb a b (omega arith)
parts_le_z (pos a) (negsuc b) h = no a b h.parts
  where
    no : (a b : ℕ) → a + suc b ≤ 0 + 0 → ⊥
    no a b h = omega arith
parts_le_z (negsuc a) (pos b) h = tt
parts_le_z (negsuc a) (negsuc b) h = let k = h.parts in le→leb b a (omega arith)

-- equal parts, equal numbers
pub parts_inj : (a b : ℤ) → pp a + np b ≡ pp b + np a → a ≡ b
parts_inj (pos a) (pos b) e = ap pos (go a b e)
  where
    go : (a b : ℕ) → a + 0 ≡ b + 0 → a ≡ b
    go a b e = omega arith
parts_inj (pos a) (negsuc b) e = absurd (no a b e)
  where
    no : (a b : ℕ) → a + suc b ≡ 0 + 0 → ⊥
    no a b e = omega arith
parts_inj (negsuc a) (pos b) e = absurd (no a b e)
  where
    no : (a b : ℕ) → 0 + 0 ≡ b + suc a → ⊥
    no a b e = omega arith
parts_inj (negsuc a) (negsuc b) e = ap negsuc (go a b e)
  where
    go : (a b : ℕ) → 0 + suc b ≡ 0 + suc a → a ≡ b
    go a b e = omega arith

pub parts_lt_z : (a b : ℤ) → pp a + np b < pp b + np a → T (lt_z a b)
parts_lt_z (pos a) (pos b) h = lt→ltb a b (omega arith)
parts_lt_z (pos a) (negsuc b) h = no a b h
  where
    no : (a b : ℕ) → a + suc b < 0 + 0 → ⊥
    no a b h = omega arith
parts_lt_z (negsuc a) (pos b) h = tt
parts_lt_z (negsuc a) (negsuc b) h = lt→ltb b a (omega arith)

-- by a natural factor
pub scale_add : (a b : ℤ) (k : ℕ) → (a +ℤ b) *ℤ pos k ≡ a *ℤ pos k +ℤ b *ℤ pos k
scale_add a b k =
    let e = simp add-mul at (ap (λ (n : ℕ). n * k) (parts_add a b)) in
    parts_inj ((a +ℤ b) *ℤ pos k) (a *ℤ pos k +ℤ b *ℤ pos k)
    (omega (arith, e, pp_mul (a +ℤ b) k, np_mul (a +ℤ b) k, parts_add (a *ℤ pos k) (b *ℤ pos k), pp_mul a k, np_mul a k, pp_mul b k, np_mul b k))

pub scale_le : (a b : ℤ) (k : ℕ) → a ≤ᶻ b → a *ℤ pos k ≤ᶻ b *ℤ pos k
scale_le a b k h =
    let e : pp a * k + np b * k ≤ pp b * k + np a * k = le_trans (le_of_eq (sym (add-mul (pp a) (np b) k))) (le_trans (mul-le-mul_right k h.parts) (le_of_eq (add-mul (pp b) (np a) k))) in
    record { parts = omega (arith, pp_mul a k, np_mul a k, pp_mul b k, np_mul b k) }

pub le_transᶻ : (a b c : ℤ) → a ≤ᶻ b → b ≤ᶻ c → a ≤ᶻ c
le_transᶻ a b c h g = record { parts = (let i = h.parts in let j = g.parts in omega arith) }

pub nle_z_parts : (a b : ℤ) → T (not (le_z a b)) → b ≤ᶻ a
nle_z_parts (pos a) (pos b) t = let h = nleb→lt a b t in record { parts = omega arith }
nle_z_parts (pos a) (negsuc b) t = record { parts = omega arith }
nle_z_parts (negsuc a) (pos b) t = absurd t
nle_z_parts (negsuc a) (negsuc b) t = let h = nleb→lt b a t in record { parts = omega arith }

-- one part is 0
pub one_part : (a : ℤ) → (pp a ≡ 0) ⊎ (np a ≡ 0)
one_part (pos n) = inr refl
one_part (negsuc n) = inl refl
