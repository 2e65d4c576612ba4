-- Equations of polynomials over ℤ, by a normal form that antt computes: `solve ρ e f refl`.
use mathlib.Core.Path.{◌≡◌, refl, sym, ap, ◌∙◌}
use mathlib.Core.Bool.{Bool, true, false, cond, ◌&&◌, false≢true}
use mathlib.Core.List.{List, [], ◌∷◌}
use Prim.Native.Nat.{ℕ, zero, suc}
use native.Mathlib.Nat.{one-mul}
use native.Mathlib.Omega.{arith}
use borrow.Author.Tests.{eqb-true}
use lib.Dec.{leb, eqb}
use lib.IntN.{ℤ, pos, negsuc, neg_ℤ, ◌+ℤ◌, ◌-ℤ◌, ◌*ℤ◌, +ℤ_idl, +ℤ_idr, +ℤ_comm, +ℤ_assoc, *ℤ_comm, zero-*ℤ, *ℤ-zero, -ℤ-+ℤ_cancel}
use Rattle.exact.specs.Equal.{eq_z}
use Rattle.exact.proofs.Size.{eq_z_true}
use Rattle.exact.proofs.Linear.{ring, at, ◌⊕◌, ◌⊗◌}

pub data Term : Type 0 where
  var : ℕ → Term
  num : ℤ → Term
  ◌:+◌ ◌:-◌ ◌:*◌ : Term → Term → Term

infixl 6 ◌:+◌ ◌:-◌
infixl 7 ◌:*◌
-- a monomial is the list of its variables, in order; a polynomial is a list of monomials with their factors
abbrev pub Mono : Type 0
Mono = List ℕ

pub data Poly : Type 0 where
  none : Poly
  more : ℤ → Mono → Poly → Poly

abbrev pub look : List ℤ → ℕ → ℤ
look [] i = pos 0
look (z ∷ zs) zero = z
look (z ∷ zs) (suc i) = look zs i

abbrev pub eq_m : Mono → Mono → Bool
eq_m [] [] = true
eq_m [] (j ∷ n) = false
eq_m (i ∷ m) [] = false
eq_m (i ∷ m) (j ∷ n) = eqb i j && eq_m m n

abbrev pub put_m : ℕ → Mono → Mono
put_m i [] = i ∷ []
put_m i (j ∷ m) = let r = put_m i m in cond (leb i j) (i ∷ j ∷ m) (j ∷ r)

abbrev pub mul_m : Mono → Mono → Mono
mul_m [] n = n
mul_m (i ∷ m) n = put_m i (mul_m m n)

abbrev pub put_p : ℤ → Mono → Poly → Poly
put_p c m none = more c m none
put_p c m (more d n p) = let r = put_p c m p in cond (eq_m m n) (more (c +ℤ d) n p) (more d n r)

abbrev pub add_p : Poly → Poly → Poly
add_p none q = q
add_p (more c m p) q = put_p c m (add_p p q)

-- c m times each
abbrev pub scale_p : ℤ → Mono → Poly → Poly
scale_p c m none = none
scale_p c m (more d n p) = put_p (c *ℤ d) (mul_m m n) (scale_p c m p)

abbrev pub mul_p : Poly → Poly → Poly
mul_p none q = none
mul_p (more c m p) q = add_p (scale_p c m q) (mul_p p q)

abbrev pub norm : Term → Poly
norm (var i) = more (pos 1) (i ∷ []) none
norm (num z) = more z [] none
norm (a :+ b) = add_p (norm a) (norm b)
norm (a :- b) = add_p (norm a) (scale_p (negsuc 0) [] (norm b))
norm (a :* b) = mul_p (norm a) (norm b)

abbrev pub all_zero : Poly → Bool
all_zero none = true
all_zero (more c m p) = eq_z c (pos 0) && all_zero p

abbrev pub same : Term → Term → Bool
same e f = all_zero (norm (e :- f))

-- ---- values
module _ (ρ : ℕ → ℤ) where
  abbrev pub eval : Term → ℤ
  eval (var i) = ρ i
  eval (num z) = z
  eval (a :+ b) = eval a +ℤ eval b
  eval (a :- b) = eval a -ℤ eval b
  eval (a :* b) = eval a *ℤ eval b

  abbrev val_m : Mono → ℤ
  val_m [] = pos 1
  val_m (i ∷ m) = ρ i *ℤ val_m m

  abbrev val_p : Poly → ℤ
  val_p none = pos 0
  val_p (more c m p) = c *ℤ val_m m +ℤ val_p p

-- ---- laws
assoc : (a b c : ℤ) → (a *ℤ b) *ℤ c ≡ a *ℤ (b *ℤ c)
assoc a b c = ring ((at a ⊗ at b) ⊗ at c) (at a ⊗ (at b ⊗ at c)) (λ K. omega arith)

dist : (a b c : ℤ) → (a +ℤ b) *ℤ c ≡ a *ℤ c +ℤ b *ℤ c
dist a b c = ring ((at a ⊕ at b) ⊗ at c) (at a ⊗ at c ⊕ at b ⊗ at c) (λ K. omega arith)

dist_l : (a b c : ℤ) → a *ℤ (b +ℤ c) ≡ a *ℤ b +ℤ a *ℤ c
dist_l a b c = ring (at a ⊗ (at b ⊕ at c)) (at a ⊗ at b ⊕ at a ⊗ at c) (λ K. omega arith)

left_comm : (a b c : ℤ) → a *ℤ (b *ℤ c) ≡ b *ℤ (a *ℤ c)
left_comm a b c = ring (at a ⊗ (at b ⊗ at c)) (at b ⊗ (at a ⊗ at c)) (λ K. omega arith)

plus_left_comm : (a b c : ℤ) → a +ℤ (b +ℤ c) ≡ b +ℤ (a +ℤ c)
plus_left_comm a b c = sym (+ℤ_assoc a b c) ∙ ap (λ (z : ℤ). z +ℤ c) (+ℤ_comm a b) ∙ +ℤ_assoc b a c

mixed : (c d m n : ℤ) → (c *ℤ d) *ℤ (m *ℤ n) ≡ (c *ℤ m) *ℤ (d *ℤ n)
mixed c d m n = assoc c d (m *ℤ n) ∙ ap (λ (z : ℤ). c *ℤ z) (left_comm d m n) ∙ sym (assoc c m (d *ℤ n))

one_mul_Z : (a : ℤ) → pos 1 *ℤ a ≡ a
one_mul_Z (pos n) = rw one-mul
one_mul_Z (negsuc n) = rw one-mul

minus_mul_Z : (a : ℤ) → negsuc 0 *ℤ a ≡ neg_ℤ a
minus_mul_Z (pos n) = rw one-mul
minus_mul_Z (negsuc n) = rw one-mul

module _ (ρ : ℕ → ℤ) where
  put_m_is : (i : ℕ) (m : Mono) → val_m ρ (put_m i m) ≡ ρ i *ℤ val_m ρ m
  put_m_is i [] = refl
  put_m_is i (j ∷ m) = go (leb i j) (put_m_is i m)
    where
      go : (t : Bool) → val_m ρ (put_m i m) ≡ ρ i *ℤ val_m ρ m → val_m ρ (cond t (i ∷ j ∷ m) (j ∷ put_m i m)) ≡ ρ i *ℤ (ρ j *ℤ val_m ρ m)
      go true h = refl
      go false h = ap (λ (z : ℤ). ρ j *ℤ z) h ∙ left_comm (ρ j) (ρ i) (val_m ρ m)

  mul_m_is : (m n : Mono) → val_m ρ (mul_m m n) ≡ val_m ρ m *ℤ val_m ρ n
  mul_m_is [] n = sym (one_mul_Z (val_m ρ n))
  mul_m_is (i ∷ m) n = put_m_is i (mul_m m n) ∙ ap (λ (z : ℤ). ρ i *ℤ z) (mul_m_is m n) ∙ sym (assoc (ρ i) (val_m ρ m) (val_m ρ n))

  eq_m_is : (m n : Mono) → eq_m m n ≡ true → m ≡ n
  eq_m_is [] [] e = refl
  eq_m_is [] (j ∷ n) e = absurd (false≢true e)
  eq_m_is (i ∷ m) [] e = absurd (false≢true e)
  eq_m_is (i ∷ m) (j ∷ n) e = go (eqb i j) (eq_m m n) (eqb-true i j) (eq_m_is m n) e
    where
      go : (s t : Bool) → (s ≡ true → i ≡ j) → (t ≡ true → m ≡ n) → (s && t) ≡ true → ◌≡◌ {A = Mono} (i ∷ m) (j ∷ n)
      go true true p q e = let a = p refl in let b = q refl in cc
      go true false p q e = absurd (false≢true e)
      go false t p q e = absurd (false≢true e)

  put_p_is : (c : ℤ) (m : Mono) (p : Poly) → val_p ρ (put_p c m p) ≡ c *ℤ val_m ρ m +ℤ val_p ρ p
  put_p_is c m none = refl
  put_p_is c m (more d n p) = go (eq_m m n) (eq_m_is m n) (put_p_is c m p)
    where
      go : (t : Bool) → (t ≡ true → m ≡ n) → val_p ρ (put_p c m p) ≡ c *ℤ val_m ρ m +ℤ val_p ρ p → val_p ρ (cond t (more (c +ℤ d) n p) (more d n (put_p c m p))) ≡ c *ℤ val_m ρ m +ℤ (d *ℤ val_m ρ n +ℤ val_p ρ p)
      go true h r = rw (h refl) (ap (λ (z : ℤ). z +ℤ val_p ρ p) (dist c d (val_m ρ n)) ∙ +ℤ_assoc (c *ℤ val_m ρ n) (d *ℤ val_m ρ n) (val_p ρ p))
      go false h r = ap (λ (z : ℤ). d *ℤ val_m ρ n +ℤ z) r ∙ plus_left_comm (d *ℤ val_m ρ n) (c *ℤ val_m ρ m) (val_p ρ p)

  add_p_is : (p q : Poly) → val_p ρ (add_p p q) ≡ val_p ρ p +ℤ val_p ρ q
  add_p_is none q = sym (+ℤ_idl (val_p ρ q))
  add_p_is (more c m p) q = put_p_is c m (add_p p q) ∙ ap (λ (z : ℤ). c *ℤ val_m ρ m +ℤ z) (add_p_is p q) ∙ sym (+ℤ_assoc (c *ℤ val_m ρ m) (val_p ρ p) (val_p ρ q))

  scale_p_is : (c : ℤ) (m : Mono) (p : Poly) → val_p ρ (scale_p c m p) ≡ (c *ℤ val_m ρ m) *ℤ val_p ρ p
  scale_p_is c m none = sym (*ℤ-zero (c *ℤ val_m ρ m))
  scale_p_is c m (more d n p) =
      put_p_is (c *ℤ d) (mul_m m n) (scale_p c m p)
      ∙ rw (mul_m_is m n, scale_p_is c m p, mixed c d (val_m ρ m) (val_m ρ n)) (sym (dist_l (c *ℤ val_m ρ m) (d *ℤ val_m ρ n) (val_p ρ p)))

  mul_p_is : (p q : Poly) → val_p ρ (mul_p p q) ≡ val_p ρ p *ℤ val_p ρ q
  mul_p_is none q = sym (zero-*ℤ (val_p ρ q))
  mul_p_is (more c m p) q = add_p_is (scale_p c m q) (mul_p p q) ∙ rw (scale_p_is c m q, mul_p_is p q) (sym (dist (c *ℤ val_m ρ m) (val_p ρ p) (val_p ρ q)))

  norm_is : (e : Term) → val_p ρ (norm e) ≡ eval ρ e
  norm_is (var i) = +ℤ_idr (pos 1 *ℤ (ρ i *ℤ pos 1)) ∙ one_mul_Z (ρ i *ℤ pos 1) ∙ *ℤ_comm (ρ i) (pos 1) ∙ one_mul_Z (ρ i)
  norm_is (num z) = +ℤ_idr (z *ℤ pos 1) ∙ *ℤ_comm z (pos 1) ∙ one_mul_Z z
  norm_is (a :+ b) = add_p_is (norm a) (norm b) ∙ rw (norm_is a, norm_is b)
  norm_is (a :- b) = add_p_is (norm a) (scale_p (negsuc 0) [] (norm b)) ∙ rw (scale_p_is (negsuc 0) [] (norm b), norm_is a, norm_is b) (ap (λ (z : ℤ). eval ρ a +ℤ z) (minus_mul_Z (eval ρ b)))
  norm_is (a :* b) = mul_p_is (norm a) (norm b) ∙ rw (norm_is a, norm_is b)

  zero_is : (p : Poly) → all_zero p ≡ true → val_p ρ p ≡ pos 0
  zero_is none e = refl
  zero_is (more c m p) e = go (eq_z c (pos 0)) (all_zero p) (eq_z_true c (pos 0)) (zero_is p) e
    where
      go : (s t : Bool) → (s ≡ true → c ≡ pos 0) → (t ≡ true → val_p ρ p ≡ pos 0) → (s && t) ≡ true → c *ℤ val_m ρ m +ℤ val_p ρ p ≡ pos 0
      go true true f g e = rw (f refl, g refl, zero-*ℤ (val_m ρ m))
      go true false f g e = absurd (false≢true e)
      go false t f g e = absurd (false≢true e)

sub_zero : (a b : ℤ) → a -ℤ b ≡ pos 0 → a ≡ b
sub_zero a b h = sym (-ℤ-+ℤ_cancel a b) ∙ ap (λ (z : ℤ). z +ℤ b) h ∙ +ℤ_idl b

-- two terms that are one polynomial are equal: `solve (x ∷ y ∷ []) (var 0 :+ var 1) (var 1 :+ var 0) refl`
pub solve : (zs : List ℤ) (e f : Term) → same e f ≡ true → eval (look zs) e ≡ eval (look zs) f
solve zs e f h = sub_zero (eval (look zs) e) (eval (look zs) f) (sym (norm_is (look zs) (e :- f)) ∙ zero_is (look zs) (norm (e :- f)) h)
