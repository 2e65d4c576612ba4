-- Equations and orders of polynomials over ℤ, by omega: an expression is the difference of two natural numbers, `P` and `N`, which omega multiplies out.
use mathlib.Core.Path.{◌≡◌, refl, ap}
use Prim.Native.Nat.{ℕ, suc, ◌+◌, ◌-◌, ◌*◌, ◌≤◌}
use native.Mathlib.Nat.{le_refl}
use native.Mathlib.Omega.{arith}
use lib.IntN.{ℤ, pos, negsuc, ◌+ℤ◌, ◌-ℤ◌, ◌*ℤ◌, +ℤ_invr}
use mathlib.Core.Bool.{Bool, true, false}
use Rattle.exact.specs.Equal.{eq_z}
use Rattle.exact.proofs.Size.{eq_z_true, eq_z_false, eq_eq_z, ne_eq_z}
use Rattle.exact.proofs.Parts.{pp, np, ◌≤ᶻ◌, parts_add, parts_sub, parts_inj, pp_neg, np_neg}

pub parts_mul : (a b : ℤ) → pp (a *ℤ b) + (pp a * np b + np a * pp b) ≡ np (a *ℤ b) + (pp a * pp b + np a * np b)
parts_mul (pos a) (pos b) = omega arith
parts_mul (pos a) (negsuc b) = omega (arith, pp_neg (pos (a * suc b)), np_neg (pos (a * suc b)))
parts_mul (negsuc a) (pos b) = omega (arith, pp_neg (pos (suc a * b)), np_neg (pos (suc a * b)))
parts_mul (negsuc a) (negsuc b) = omega arith

infixl 6 ◌⊕◌ ◌⊖◌
infixl 7 ◌⊗◌
pub data Expr : Type 0 where
  at : ℤ → Expr
  ◌⊕◌ ◌⊖◌ ◌⊗◌ : Expr → Expr → Expr

abbrev pub eval : Expr → ℤ
eval (at z) = z
eval (a ⊕ b) = eval a +ℤ eval b
eval (a ⊖ b) = eval a -ℤ eval b
eval (a ⊗ b) = eval a *ℤ eval b

-- z + K, where K is large enough for that to be a natural number. Shut, so that omega takes it for an unknown
pub up : ℕ → ℤ → ℕ
up K (pos n) = n + K
up K (negsuc n) = K - suc n

up_is : (K : ℕ) (z : ℤ) → np z ≤ K → pp z + K ≡ np z + up K z
unfolding up
up_is K (pos n) h = omega arith
up_is K (negsuc n) h = omega arith

bound : Expr → ℕ
bound (at z) = np z
bound (a ⊕ b) = bound a + bound b
bound (a ⊖ b) = bound a + bound b
bound (a ⊗ b) = bound a + bound b

-- the expression is P K e - N K e
abbrev mutual
  pub P : ℕ → Expr → ℕ
  P K (at z) = up K z
  P K (a ⊕ b) = P K a + P K b
  P K (a ⊖ b) = P K a + N K b
  P K (a ⊗ b) = P K a * P K b + N K a * N K b

  pub N : ℕ → Expr → ℕ
  N K (at z) = K
  N K (a ⊕ b) = N K a + N K b
  N K (a ⊖ b) = N K a + P K b
  N K (a ⊗ b) = P K a * N K b + N K a * P K b

pair : (pa na Pa Na pb nb Pb Nb x y : ℕ) → pa + Na ≡ na + Pa → pb + Nb ≡ nb + Pb → x + (pa * nb + na * pb) ≡ y + (pa * pb + na * nb) → x + (Pa * Nb + Na * Pb) ≡ y + (Pa * Pb + Na * Nb)
pair pa na Pa Na pb nb Pb Nb x y e f g =
    omega (arith, ap (λ (i : ℕ). i * pb) e, ap (λ (i : ℕ). i * nb) e, ap (λ (i : ℕ). i * Pa) f, ap (λ (i : ℕ). i * Na) f)

left : (a b K : ℕ) → a + b ≤ K → a ≤ K
left a b K h = omega arith

right : (a b K : ℕ) → a + b ≤ K → b ≤ K
right a b K h = omega arith

sound : (K : ℕ) (e : Expr) → bound e ≤ K → pp (eval e) + N K e ≡ np (eval e) + P K e
unfolding bound
sound K (at z) h = up_is K z h
sound K (a ⊕ b) h = let i = sound K a (left (bound a) (bound b) K h) in let j = sound K b (right (bound a) (bound b) K h) in let k = parts_add (eval a) (eval b) in omega arith
sound K (a ⊖ b) h = let i = sound K a (left (bound a) (bound b) K h) in let j = sound K b (right (bound a) (bound b) K h) in let k = parts_sub (eval a) (eval b) in omega arith
sound K (a ⊗ b) h =
    pair (pp (eval a)) (np (eval a)) (P K a) (N K a) (pp (eval b)) (np (eval b)) (P K b) (N K b) (pp (eval a *ℤ eval b)) (np (eval a *ℤ eval b))
    (sound K a (left (bound a) (bound b) K h)) (sound K b (right (bound a) (bound b) K h)) (parts_mul (eval a) (eval b))

-- equal as polynomials: `ring e f (λ K. omega arith)`
pub ring : (e f : Expr) → ((K : ℕ) → P K e + N K f ≡ P K f + N K e) → eval e ≡ eval f
ring e f h =
    let K = bound e + bound f in
    let g = h K in
    let i = sound K e (left (bound e) (bound f) K (le_refl K)) in
    let j = sound K f (right (bound e) (bound f) K (le_refl K)) in
    parts_inj (eval e) (eval f) (omega arith)

-- a difference is 0 where the two are equal
pub eq_z_sub : (a b : ℤ) → eq_z (a -ℤ b) (pos 0) ≡ eq_z a b
eq_z_sub a b = go (eq_z a b) (eq_z_true a b) (eq_z_false a b)
  where
    zero_sub : a -ℤ b ≡ pos 0 → a ≡ b
    zero_sub e = let h = parts_sub a b in let i = ap pp e in let j = ap np e in parts_inj a b (omega arith)

    go : (t : Bool) → (t ≡ true → a ≡ b) → (t ≡ false → a ≡ b → ⊥) → eq_z (a -ℤ b) (pos 0) ≡ t
    go true y n = eq_eq_z (a -ℤ b) (pos 0) (rw (y refl) (+ℤ_invr b))
    go false y n = ne_eq_z (a -ℤ b) (pos 0) (λ e. n refl (zero_sub e))

-- ---- linear orders: `linear e f (omega (arith, known g h p))`
abbrev mutual
  pub P₀ : Expr → ℕ
  P₀ (at z) = pp z
  P₀ (a ⊕ b) = P₀ a + P₀ b
  P₀ (a ⊖ b) = P₀ a + N₀ b
  P₀ (a ⊗ b) = P₀ a * P₀ b + N₀ a * N₀ b

  pub N₀ : Expr → ℕ
  N₀ (at z) = np z
  N₀ (a ⊕ b) = N₀ a + N₀ b
  N₀ (a ⊖ b) = N₀ a + P₀ b
  N₀ (a ⊗ b) = P₀ a * N₀ b + N₀ a * P₀ b

sound₀ : (e : Expr) → pp (eval e) + N₀ e ≡ np (eval e) + P₀ e
sound₀ (at z) = omega arith
sound₀ (a ⊕ b) = let i = sound₀ a in let j = sound₀ b in let k = parts_add (eval a) (eval b) in omega arith
sound₀ (a ⊖ b) = let i = sound₀ a in let j = sound₀ b in let k = parts_sub (eval a) (eval b) in omega arith
sound₀ (a ⊗ b) = pair (pp (eval a)) (np (eval a)) (P₀ a) (N₀ a) (pp (eval b)) (np (eval b)) (P₀ b) (N₀ b) (pp (eval a *ℤ eval b)) (np (eval a *ℤ eval b)) (sound₀ a) (sound₀ b) (parts_mul (eval a) (eval b))

pub linear : (e f : Expr) → P₀ e + N₀ f ≤ P₀ f + N₀ e → eval e ≤ᶻ eval f
linear e f h = let i = sound₀ e in let j = sound₀ f in record { parts = omega arith }

pub known : (e f : Expr) → eval e ≤ᶻ eval f → P₀ e + N₀ f ≤ P₀ f + N₀ e
known e f h = let i = sound₀ e in let j = sound₀ f in let k = h.parts in omega arith
