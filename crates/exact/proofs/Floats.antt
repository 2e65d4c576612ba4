-- Floats that hold whole numbers: a sum, a difference and a product of them is its exact value rounded once, and up to 2 ^ 53 it is exact.
use mathlib.Core.Path.{◌≡◌, refl, sym, ap, subst, ◌∙◌}
use mathlib.Core.Bool.{Bool, true, false, not, cond, true≢false}
use Prim.Native.Nat.{ℕ, zero, suc, ◌+◌, ◌-◌, ◌*◌, ◌≤◌, ◌<◌, ◌^◌, zero-le, suc-le-suc}
use native.Mathlib.Nat.{le_of_lt, le_trans, le_of_eq}
use native.Mathlib.Omega.{arith}
use borrow.Author.Tests.{ltb-true, ltb-false}
use lib.Dec.{T, ltb, leb, leb→le}
use lib.IntN.{ℤ, pos, negsuc, neg_ℤ, nat_abs, ◌+ℤ◌, ◌-ℤ◌, ◌*ℤ◌, neg_ℤ-+ℤ, neg_ℤ-neg_ℤ, +ℤ_comm}
use lib.Signed.{lt_z, le_z}
use lib.Ieee.{Float, nan, inf, fin, Format, binary64, prec, of_bits, round, sum, add, sub, mul, neg, lt, le, eq, unlike, of_int}
use lib.Ieee.Exact.{HasValue}
use lib.Ieee.Back.{round_whole}
use Rattle.exact.specs.Num.{Within, signed, Exact, Rounded, Whole, Num}
use Rattle.exact.specs.Equal.{eq_z}
use Rattle.exact.proofs.Fractions.{size_signed, signed_not, signed_mul, minus_pos, add_at, mul_at, lt_is, eq_is, le_is}
use Rattle.exact.proofs.Size.{within_add, within_sub, within_mul}

-- ---- by whole numbers: a sum, a difference and a product are their exact values rounded
-- `plus`: no sum is -0 whose first summand is not
record Summed (f : Format) (x : Float) (s : Bool) (a : ℕ) (z : ℤ) (k : ℕ) : Type 0 where
  rounded : Rounded f x z k
  plus : (a ≡ 0 → s ≡ false) → rounded.size ≡ 0 → rounded.sign ≡ false

add_signed : (f : Format) (s t : Bool) (a b k : ℕ) → Summed f (sum f s a t b k) s a (signed s a +ℤ signed t b) k
unfolding sum
add_signed f false false a b k = record { rounded = record { sign = false; size = a + b; by = refl; is = refl }; plus = λ h e. refl }
add_signed f true true a b k = record { rounded = record { sign = true; size = a + b; by = refl; is = neg_ℤ-+ℤ (pos a) (pos b) }; plus = λ h e. h (first a b e) }
  where
    first : (a b : ℕ) → a + b ≡ 0 → a ≡ 0
    first a b e = omega arith
add_signed f false true a b k = go (ltb a b) (ltb-true a b) (ltb-false a b)
  where
    some : (a b : ℕ) → a < b → b - a ≡ 0 → ⊥
    some a b h e = omega arith

    go : (u : Bool) → (u ≡ true → a < b) → (u ≡ false → b ≤ a) → Summed f (cond u (round f true (b - a) k) (round f false (a - b) k)) false a (pos a -ℤ pos b) k
    go true p q = record {
      plus = λ h e. absurd (some a b (p refl) e);
      rounded = record { sign = true; size = b - a; by = refl; is = ap neg_ℤ (minus_pos b a (le_of_lt (p refl))) ∙ neg_ℤ-+ℤ (pos b) (neg_ℤ (pos a)) ∙ +ℤ_comm (neg_ℤ (pos b)) (neg_ℤ (neg_ℤ (pos a))) ∙ ap (λ (z : ℤ). z -ℤ pos b) (neg_ℤ-neg_ℤ (pos a)) };
    }
    go false p q = record { rounded = record { sign = false; size = a - b; by = refl; is = minus_pos a b (q refl) }; plus = λ h e. refl }
add_signed f true false a b k = go (ltb a b) (ltb b a) (ltb-true a b) (ltb-false a b) (ltb-true b a) (ltb-false b a)
  where
    other : b ≤ a → neg_ℤ (pos (a - b)) ≡ neg_ℤ (pos a) +ℤ pos b
    other h = ap neg_ℤ (minus_pos a b h) ∙ neg_ℤ-+ℤ (pos a) (neg_ℤ (pos b)) ∙ ap (λ (z : ℤ). neg_ℤ (pos a) +ℤ z) (neg_ℤ-neg_ℤ (pos b))

    none : a ≤ b → b ≤ a → a - b ≡ 0
    none h g = omega arith

    some : (a b : ℕ) → b < a → a - b ≡ 0 → ⊥
    some a b h e = omega arith

    go : (u v : Bool) → (u ≡ true → a < b) → (u ≡ false → b ≤ a) → (v ≡ true → b < a) → (v ≡ false → a ≤ b) → Summed f (cond u (round f false (b - a) k) (round f v (a - b) k)) true a (neg_ℤ (pos a) +ℤ pos b) k
    go true v p q o r = record { rounded = record { sign = false; size = b - a; by = refl; is = minus_pos b a (le_of_lt (p refl)) ∙ +ℤ_comm (pos b) (neg_ℤ (pos a)) }; plus = λ h e. refl }
    go false true p q o r = record { rounded = record { sign = true; size = a - b; by = refl; is = other (q refl) }; plus = λ h e. absurd (some a b (o refl) e) }
    go false false p q o r = record { plus = λ h e. refl; rounded = record { sign = false; size = a - b; by = refl; is = (let e : a - b ≡ 0 = none (r refl) (q refl) in ap pos e ∙ (rw e at (other (q refl)))) } }

pub neg_exact : {x : Float} {z : ℤ} {k : ℕ} → Exact x z k → Exact (neg x) (neg_ℤ z) k
unfolding neg
neg_exact {x} {k = k} p = record { sign = not p.sign; size = p.size; has = go x p.sign p.size p.has; is = signed_not p.sign p.size ∙ ap neg_ℤ p.is }
  where
    go : (x : Float) (s : Bool) (n : ℕ) → HasValue x s n k → HasValue (neg x) (not s) n k
    go nan s n h = h
    go (inf u) s n h = h
    go (fin u m e) s n h = (ap not h.0, h.1)

pub add_rounded : {f : Format} {x y : Float} {a b : ℤ} {k : ℕ} → 0 < k → Exact x a k → Exact y b k → Rounded f (add f x y) (a +ℤ b) k
add_rounded {f} {x} {y} {k = k} K p q =
    let r = (add_signed f p.sign q.sign p.size q.size k).rounded in
    record { sign = r.sign; size = r.size; by = add_at f x y p.sign q.sign p.size q.size k K p.has q.has ∙ r.by; is = r.is ∙ rw (p.is, q.is) }

pub sub_rounded : {f : Format} {x y : Float} {a b : ℤ} {k : ℕ} → 0 < k → Exact x a k → Exact y b k → Rounded f (sub f x y) (a -ℤ b) k
unfolding sub
sub_rounded K p q = add_rounded K p (neg_exact q)

pub mul_rounded : {f : Format} {x y : Float} {a b : ℤ} {c d : ℕ} → 0 < c → 0 < d → Exact x a c → Exact y b d → Rounded f (mul f x y) (a *ℤ b) (c * d)
mul_rounded {f} {x} {y} {c = c} {d} C D p q = record {
  sign = unlike p.sign q.sign;
  size = p.size * q.size;
  by = mul_at f x y p.sign q.sign p.size q.size c d C D p.has q.has;
  is = signed_mul p.sign q.sign p.size q.size ∙ rw (p.is, q.is);
}

-- ---- whole numbers up to 2 ^ prec are exact
pub one_pos : 0 < 1
one_pos = suc-le-suc zero-le

pub whole : {f : Format} {x : Float} {z : ℤ} → Rounded f x z 1 → nat_abs z ≤ 2 ^ prec f → Whole x z
whole {f} {x} {z} r h = record {
  sign = r.sign;
  size = r.size;
  is = r.is;
  has = subst (λ (y : Float). HasValue y r.sign r.size 1) (sym r.by) (round_whole f r.sign r.size (le_trans (le_of_eq (sym (size_signed r.sign r.size) ∙ ap nat_abs r.is)) h));
}

pub of_rounded : (f : Format) (z : ℤ) → Rounded f (of_int f z) z 1
unfolding of_int
of_rounded f (pos n) = record { sign = false; size = n; by = refl; is = refl }
of_rounded f (negsuc n) = record { sign = true; size = suc n; by = refl; is = refl }

pub of_whole : (f : Format) {z : ℤ} → nat_abs z ≤ 2 ^ prec f → Whole (of_int f z) z
of_whole f {z} h = whole (of_rounded f z) h

-- a rounded whole number that is not -0 is the float of that number
plain : {f : Format} {x : Float} {z : ℤ} (r : Rounded f x z 1) → (r.size ≡ 0 → r.sign ≡ false) → x ≡ of_int f z
unfolding of_int
plain {f} {x} {z} r h = go r.sign r.size z r.by r.is h
  where
    go : (s : Bool) (n : ℕ) (z : ℤ) → x ≡ round f s n 1 → signed s n ≡ z → (n ≡ 0 → s ≡ false) → x ≡ of_int f z
    go false n z p e h = p ∙ ap (of_int f) e
    go true zero z p e h = absurd (true≢false (h refl))
    go true (suc n) z p e h = p ∙ ap (of_int f) e

-- the difference of two floats of whole numbers
pub sub_of : (f : Format) (a b : ℤ) → nat_abs a ≤ 2 ^ prec f → nat_abs b ≤ 2 ^ prec f → sub f (of_int f a) (of_int f b) ≡ of_int f (a -ℤ b)
unfolding sub of_int
sub_of f a b h k =
    let p : Whole (of_int f a) a = of_whole f h in
    let q : Whole (neg (of_int f b)) (neg_ℤ b) = neg_exact {z = b} (of_whole f k) in
    let r = add_signed f (of_sign a) q.sign (nat_abs a) q.size 1 in
    let e : add f (of_int f a) (neg (of_int f b)) ≡ sum f (of_sign a) (nat_abs a) q.sign q.size 1 =
    add_at f (of_int f a) (neg (of_int f b)) (of_sign a) q.sign (nat_abs a) q.size 1 one_pos (of_has a h) q.has in
    e ∙ plain r.rounded (r.plus (of_plus a)) ∙ rw (of_is a, q.is)
  where
    of_sign : ℤ → Bool
    of_sign (pos n) = false
    of_sign (negsuc n) = true

    of_is : (z : ℤ) → signed (of_sign z) (nat_abs z) ≡ z
    of_is (pos n) = refl
    of_is (negsuc n) = refl

    of_plus : (z : ℤ) → nat_abs z ≡ 0 → of_sign z ≡ false
    of_plus (pos n) e = refl
    of_plus (negsuc n) e = absurd (no n e)
      where
        no : (n : ℕ) → suc n ≡ 0 → ⊥
        no n e = omega arith

    of_has : (z : ℤ) → nat_abs z ≤ 2 ^ prec f → HasValue (of_int f z) (of_sign z) (nat_abs z) 1
    of_has (pos n) h = round_whole f false n h
    of_has (negsuc n) h = round_whole f true (suc n) h

-- ---- with bounds, at binary64
abbrev Room : ℕ → Type 0
Room m = T (leb m (2 ^ 53))

-- a literal 0.0
pub num_zero : Num (of_bits binary64 0) (pos 0) 0
unfolding of_bits
num_zero = record { exact = record { sign = false; size = 0; has = (refl, refl); is = refl }; within = record { size = zero-le } }

-- the float of a whole number
pub num_float : {x : Float} {z : ℤ} {m : ℕ} → x ≡ of_int binary64 z → Within m z → Room m → Num x z m
num_float {m = m} e h t = rw e (record { exact = of_whole binary64 (le_trans h.size (leb→le m (2 ^ 53) t)); within = h })

-- a rounded whole number that has room
held_whole : {x : Float} {z : ℤ} {m : ℕ} → Rounded binary64 x z 1 → Within m z → Room m → Num x z m
held_whole {m = m} r h t = record { exact = whole r (le_trans h.size (leb→le m (2 ^ 53) t)); within = h }

module _ {x y : Float} {a b : ℤ} {m n : ℕ} (p : Num x a m) (q : Num y b n) where
  pub num_add : Room (m + n) → Num (add binary64 x y) (a +ℤ b) (m + n)
  num_add t = held_whole (add_rounded one_pos p.exact q.exact) (within_add p.within q.within) t

  pub num_sub : Room (m + n) → Num (sub binary64 x y) (a -ℤ b) (m + n)
  num_sub t = held_whole (sub_rounded one_pos p.exact q.exact) (within_sub p.within q.within) t

  pub num_mul : Room (m * n) → Num (mul binary64 x y) (a *ℤ b) (m * n)
  num_mul t = held_whole (mul_rounded one_pos one_pos p.exact q.exact) (within_mul p.within q.within) t

  pub num_lt : lt x y ≡ lt_z a b
  num_lt = lt_is one_pos p.exact q.exact

  pub num_le : le x y ≡ le_z a b
  num_le = le_is one_pos p.exact q.exact

  pub num_eq : eq x y ≡ eq_z a b
  num_eq = eq_is one_pos p.exact q.exact
