-- The quotient of two floats that are whole numbers: its value, and how it compares with 0 and 1.
use mathlib.Core.Path.{◌≡◌, refl, sym, ap, ◌∙◌}
use mathlib.Core.Logic.{◌⊎◌, inl, inr}
use mathlib.Core.Bool.{Bool, true, false, ◌&&◌, ◌||◌, true≢false}
use Prim.Native.Nat.{ℕ, zero, suc, ◌-◌, ◌*◌, ◌≤◌, ◌<◌, ◌^◌, zero-le, suc-le-suc}
use native.Mathlib.Nat.{mul-one, one-mul, le_trans, le_of_eq, le_of_lt, mul-pos, zero-mul}
use native.Mathlib.Omega.{arith}
use borrow.Author.Tests.{ltb-true, ltb-false, leb-false, ne_eqb, le-leb, lt-leb, lt-ltb, le-ltb}
use lib.Dec.{T, ltb, leb, eqb, lit<}
use lib.IntN.{ℤ, pos, negsuc, neg_ℤ, nat_abs, ◌*ℤ◌}
use lib.Signed.{le_z, lt_z}
use lib.Ieee.{Float, nan, inf, fin, Format, binary64, up, down, round, div, le, lt, eq, neg, unlike, of_bits}
use lib.Ieee.Exact.{HasValue}
use lib.Ieee.Back.{round_whole}
use lib.Ieee.Positive.{num, den, den_pos}
use lib.Ieee.Scale.{round_same}
use lib.Ieee.Order.{round_mono}
use lib.Ieee.Fits.{down_pos}
use lib.Ieee.Bits.{is_true}
use Rattle.exact.proofs.Bounds.{plus, under, round_plus, le_cross, round_neg}
use Rattle.exact.proofs.Floats.{one_pos}
use Rattle.exact.proofs.Fractions.{le_is, lt_is, size_signed, signed_mul}
use Rattle.exact.specs.Num.{signed, Exact, Whole, Part}
use Rattle.exact.specs.Equal.{eq_z}

above : (n u b d : ℕ) → 0 < b → 0 < d → n * u * 1 ≡ b * d → n ≡ 0 → ⊥
above n u b d B D e z = let p : 0 < b * d = mul-pos B D in let q : n * u ≡ 0 = ap (λ (i : ℕ). i * u) z ∙ zero-mul u in omega arith

div_at : (f : Format) (x y : Float) (s t : Bool) (a b : ℕ) → 0 < b → HasValue x s a 1 → HasValue y t b 1 → div f x y ≡ round f (unlike s t) a b
unfolding div
div_at f nan y s t a b B p q = absurd p
div_at f (inf u) y s t a b B p q = absurd p
div_at f (fin u m e) nan s t a b B p q = absurd q
div_at f (fin u m e) (inf v) s t a b B p q = absurd q
div_at f (fin u m e) (fin v n d) s t a b B p q =
    let P : m * up e ≡ a * down e = sym (mul-one (m * up e)) ∙ p.1 in
    let Q : n * up d ≡ b * down d = sym (mul-one (n * up d)) ∙ q.1 in
    rw (p.0, q.0, ne_eqb n 0 (λ z. above n (up d) b (down d) B (down_pos d) q.1 z))
    (round_same f (unlike s t) (m * up e * down d) (n * up d * down e) a b (rw Q (mul-pos (mul-pos B (down_pos d)) (down_pos e))) B
    (rw (P, Q) (swap a (down e) (down d) b)))
  where
    swap : (a x y b : ℕ) → a * x * y * b ≡ a * (b * y * x)
    swap a x y b = omega arith

one_is : round binary64 false 1 1 ≡ of_bits binary64 0x3ff0_0000_0000_0000
unfolding round of_bits
one_is = refl

tiny_is : round binary64 false 1 (2 ^ 53) ≡ fin false 1 (negsuc 52)
unfolding round
tiny_is = refl

near_is : round binary64 false (2 ^ 53 - 1) (2 ^ 53) ≡ fin false (2 ^ 53 - 1) (negsuc 52)
unfolding round
near_is = refl

one_lit : of_bits binary64 0x3ff0_0000_0000_0000 ≡ fin false 1 (pos 0)
unfolding of_bits
one_lit = refl

zero_lit : of_bits binary64 0 ≡ fin false 0 (pos 0)
unfolding of_bits
zero_lit = refl

zero_round : round binary64 false 0 1 ≡ fin false 0 (pos 0)
unfolding round
zero_round = refl

zero_le_zero : le (fin false 0 (pos 0)) (fin false 0 (pos 0)) ≡ leb 0 0
unfolding le
zero_le_zero = refl

lt_or_ge : (a b : ℕ) → (a < b) ⊎ (b ≤ a)
lt_or_ge a b = go (ltb a b) (ltb-true a b) (ltb-false a b)
  where
    go : (t : Bool) → (t ≡ true → a < b) → (t ≡ false → b ≤ a) → (a < b) ⊎ (b ≤ a)
    go true p q = inl (p refl)
    go false p q = inr (q refl)

no_le : (a b : ℕ) (c : Bool) → b < a → (ltb a b || (eqb a b && c)) ≡ false
no_le a b c h = rw (le-ltb a b (le_of_lt h), ne_eqb a b (λ e. no a b h e))
  where
    no : (a b : ℕ) → b < a → a ≡ b → ⊥
    no a b h e = omega arith

-- above zero
not_zero : (x : Float) → T (plus x) → T (le (fin false 1 (negsuc 52)) x) → le x (fin false 0 (pos 0)) ≡ false
unfolding le lt eq
not_zero nan p t = absurd p
not_zero (inf true) p t = absurd p
not_zero (inf false) p t = refl
not_zero (fin true m e) p t = absurd p
not_zero (fin false m e) p t =
    let h : 1 * 1 * down e ≤ m * up e * 2 ^ 53 = le_cross 1 m (negsuc 52) e t in
    let d : 0 < down e = down_pos e in
    no_le (m * up e * 1) (0 * 1 * down e) true (let z = zero-mul (1 * down e) in omega arith)

-- below one
below_one : (x : Float) → T (plus x) → T (le x (fin false (2 ^ 53 - 1) (negsuc 52))) → le (fin false 1 (pos 0)) x ≡ false
unfolding le lt eq
below_one nan p t = absurd p
below_one (inf true) p t = absurd p
below_one (inf false) p t = absurd t
below_one (fin true m e) p t = absurd p
below_one (fin false m e) p t =
    let h : m * up e * 2 ^ 53 ≤ (2 ^ 53 - 1) * 1 * down e = le_cross m (2 ^ 53 - 1) e (negsuc 52) t in
    let d : 0 < down e = down_pos e in
    no_le (1 * 1 * down e) (m * up e * 1) true (omega arith)

minus_le : (n : ℕ) → le_z (neg_ℤ (pos n)) (pos 0) ≡ true
minus_le zero = refl
minus_le (suc n) = refl

not_plus : (y : Float) → T (plus y) → le (neg y) (fin false 0 (pos 0)) ≡ true
unfolding le lt eq neg
not_plus nan p = absurd p
not_plus (inf true) p = absurd p
not_plus (inf false) p = refl
not_plus (fin true m e) p = absurd p
not_plus (fin false m e) p =
    le_is {x = fin true m e} {y = fin false 0 (pos 0)} (down_pos e) (record { sign = true; size = m * up e; has = (refl, refl); is = refl }) (record { sign = false; size = 0; has = (refl, zero-mul (down e)); is = refl }) ∙ minus_le (m * up e)

module _ (U D : ℕ) (D>0 : 0 < D) (D≤ : D ≤ 2 ^ 53) where
  start_at : (S : Bool) → le (round binary64 S U D) (of_bits binary64 0) ≡ le_z (signed S (U * D)) (pos 0)
  start_at true = rw (zero_lit, round_neg binary64 U D) (not_plus (round binary64 false U D) (round_plus binary64 U D)) ∙ sym (minus_le (U * D))
  start_at false = go U
    where
      go : (U : ℕ) → le (round binary64 false U D) (of_bits binary64 0) ≡ leb (U * D) 0
      go zero = rw (zero_lit, round_same binary64 false 0 D 0 1 D>0 one_pos (zero-mul 1 ∙ sym (zero-mul D)), zero_round, zero-mul D) zero_le_zero
      go (suc u) =
          rw zero_lit
          (not_zero (round binary64 false (suc u) D) (round_plus binary64 (suc u) D)
          (rw (← tiny_is) (round_mono binary64 1 (2 ^ 53) (suc u) D (lit< tt) D>0 (omega arith))))
          ∙ sym (lt-leb (suc u * D) 0 (mul-pos (suc-le-suc zero-le) D>0))

  end_at : le (of_bits binary64 0x3ff0_0000_0000_0000) (round binary64 false U D) ≡ leb D U
  end_at = elim (lt_or_ge U D) [
    | inl l ↦
        rw one_lit
        (below_one (round binary64 false U D) (round_plus binary64 U D)
        (rw (← near_is) (round_mono binary64 U D (2 ^ 53 - 1) (2 ^ 53) D>0 (lit< tt) (near U D l D≤))))
        ∙ sym (lt-leb D U l)
    | inr g ↦ is_true _ (rw (← one_is) (round_mono binary64 1 1 U D one_pos D>0 (omega arith))) ∙ sym (le-leb D U g)
  ]
    where
      near : (U D : ℕ) → U < D → D ≤ 2 ^ 53 → U * 2 ^ 53 ≤ (2 ^ 53 - 1) * D
      near U D h k = omega arith

-- 0 over anything
pub round_zero : (k : ℕ) → 0 < k → round binary64 false 0 k ≡ of_bits binary64 0
round_zero k h = round_same binary64 false 0 k 0 1 h one_pos (zero-mul 1 ∙ sym (zero-mul k)) ∙ zero_round ∙ sym zero_lit

-- ---- by the whole numbers
record Found (x y : Float) (u v : ℤ) : Type 0 where
  sign : Bool
  is : div binary64 x y ≡ round binary64 sign (nat_abs u) (nat_abs v)
  value : signed sign (nat_abs u * nat_abs v) ≡ u *ℤ v

found : {x y : Float} {u v : ℤ} → Whole x u → Whole y v → 0 < nat_abs v → Found x y u v
found {x} {y} {u} {v} p q h =
    let a : p.size ≡ nat_abs u = sym (size_signed p.sign p.size) ∙ ap nat_abs p.is in
    let b : q.size ≡ nat_abs v = sym (size_signed q.sign q.size) ∙ ap nat_abs q.is in
    record {
      sign = unlike p.sign q.sign;
      is = rw (a, b) at (div_at binary64 x y p.sign q.sign p.size q.size (rw b h) p.has q.has);
      value = rw (← a, ← b, signed_mul, p.is, q.is);
    }

-- not parallel
pub size_pos : (v : ℤ) → eq_z v (pos 0) ≡ false → 0 < nat_abs v
size_pos (pos zero) e = absurd (true≢false e)
size_pos (pos (suc n)) e = suc-le-suc zero-le
size_pos (negsuc n) e = suc-le-suc zero-le

module _ {x y : Float} {u v : ℤ} (p : Whole x u) (q : Whole y v) (h : 0 < nat_abs v) (b : nat_abs v ≤ 2 ^ 53) where
  pub start_is : le (div binary64 x y) (of_bits binary64 0) ≡ le_z (u *ℤ v) (pos 0)
  start_is = let r = found p q h in rw (r.is, ← r.value) (start_at (nat_abs u) (nat_abs v) h b r.sign)

  pub inside_is : le_z (u *ℤ v) (pos 0) ≡ false → div binary64 x y ≡ round binary64 false (nat_abs u) (nat_abs v)
  inside_is e = let r = found p q h in r.is ∙ ap (λ (s : Bool). round binary64 s (nat_abs u) (nat_abs v)) (go r.sign (ap (λ (z : ℤ). le_z z (pos 0)) r.value ∙ e))
    where
      go : (s : Bool) → le_z (signed s (nat_abs u * nat_abs v)) (pos 0) ≡ false → s ≡ false
      go false e = refl
      go true e = absurd (true≢false (sym (minus_le (nat_abs u * nat_abs v)) ∙ e))

  -- of numbers that are not 0 the quotient has the sign of their product
  pub quotient_is : 0 < nat_abs u → div binary64 x y ≡ round binary64 (lt_z (u *ℤ v) (pos 0)) (nat_abs u) (nat_abs v)
  quotient_is n =
      let r = found p q h in
      r.is ∙ ap (λ (s : Bool). round binary64 s (nat_abs u) (nat_abs v)) (side r.sign (nat_abs u * nat_abs v) (mul-pos n h) ∙ ap (λ (z : ℤ). lt_z z (pos 0)) r.value)
    where
      side : (s : Bool) (n : ℕ) → 0 < n → s ≡ lt_z (signed s n) (pos 0)
      side false n k = sym (le-ltb n 0 zero-le)
      side true zero k = absurd (no k)
        where
          no : 0 < 0 → ⊥
          no k = omega arith
      side true (suc n) k = refl

  pub end_is : le_z (u *ℤ v) (pos 0) ≡ false → le (of_bits binary64 0x3ff0_0000_0000_0000) (div binary64 x y) ≡ leb (nat_abs v) (nat_abs u)
  end_is e = rw (inside_is e) (end_at (nat_abs u) (nat_abs v) h b)

-- ---- a proper fraction rounds to a float strictly between 0 and 1
pub part_round : (n d : ℕ) → 0 < d → n ≤ d → Part (round binary64 false n d)
part_round n d D h =
    let x = round binary64 false n d in
    let u = under x (round binary64 false 1 1) 1 (round_plus binary64 n d) (round_whole binary64 false 1 (omega arith)) (round_mono binary64 n d 1 1 D one_pos (omega arith)) in
    record { num = num x; den = den x; some = den_pos x; has = u.0; small = le_trans u.1 (le_of_eq (one-mul (den x))) }

module _ {t : Float} (p : Part t) where
  value : Exact t (pos p.num) p.den
  value = record { sign = false; size = p.num; has = p.has; is = refl }

  zero_value : Exact (of_bits binary64 0) (pos 0) p.den
  zero_value = rw zero_lit (record { sign = false; size = 0; has = (refl, zero-mul p.den); is = refl })

  one_value : Exact (of_bits binary64 0x3ff0_0000_0000_0000) (pos p.den) p.den
  one_value = rw one_lit (record { sign = false; size = p.den; has = (refl, one-mul p.den ∙ sym (mul-one p.den)); is = refl })

  above_zero : le t (of_bits binary64 0) ≡ false → lt (of_bits binary64 0) t ≡ true
  above_zero e = lt_is p.some zero_value value ∙ lt-ltb 0 p.num (leb-false p.num 0 (sym (le_is p.some value zero_value) ∙ e))

  below_one_lt : le (of_bits binary64 0x3ff0_0000_0000_0000) t ≡ false → lt t (of_bits binary64 0x3ff0_0000_0000_0000) ≡ true
  below_one_lt e = lt_is p.some value one_value ∙ lt-ltb p.num p.den (leb-false p.den p.num (sym (le_is p.some one_value value) ∙ e))

module _ (n d : ℕ) (N : 0 < n) (h : n < d) (D : d ≤ 2 ^ 53) where
  some_den : 0 < d
  some_den = omega arith

  pub round_above : lt (of_bits binary64 0) (round binary64 false n d) ≡ true
  round_above = above_zero (part_round n d some_den (le_of_lt h)) (start_at n d some_den D false ∙ lt-leb (n * d) 0 (mul-pos N some_den))

  pub round_below : lt (round binary64 false n d) (of_bits binary64 0x3ff0_0000_0000_0000) ≡ true
  round_below = below_one_lt (part_round n d some_den (le_of_lt h)) (end_at n d some_den D ∙ lt-leb d n h)
