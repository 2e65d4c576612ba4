-- Floats that are exactly a fraction z / k of whole numbers, up to the sign of a zero: what a sum, a product and a comparison make of two of them.
use mathlib.Core.Logic.{inl, inr}
use mathlib.Core.Path.{◌≡◌, refl, sym, ap, subst, ◌∙◌}
use mathlib.Core.Bool.{Bool, true, false, not, ◌&&◌, ◌||◌}
use Prim.Native.Nat.{ℕ, zero, suc, ◌+◌, ◌-◌, ◌*◌, ◌≤◌, ◌<◌, zero-le, suc-le-suc}
use native.Mathlib.Nat.{eq-or-lt_of_le, le_of_lt, eq_of_mul-eq-mul_right, mul_comm, mul_assoc, mul_left_comm, mul_right_comm, mul-zero, zero-mul, zero-add, le_of_eq, mul-pos, mul-lt-mul_of_pos_right, lt_of_mul-lt-mul_right, add-mul, mul-sub}
use native.Mathlib.Omega.{arith}
use borrow.Author.Tests.{ltb-true, ltb-false, eqb-true, eqb-false, eq-eqb, ne_eqb, lt-ltb, le-ltb, le-leb, lt-leb}
use lib.Dec.{ltb, eqb, leb}
use lib.IntN.{ℤ, pos, negsuc, neg_ℤ, nat_abs, ◌-ℤ◌, ◌*ℤ◌, neg_ℤ-neg_ℤ, +ℤ-neg_ℤ_cancel, zero-*ℤ}
use lib.Signed.{lt_z, le_z}
use lib.Ieee.{Float, nan, inf, fin, Format, up, down, round, sum, add, mul, lt, le, eq, below, level, unlike}
use lib.Ieee.Exact.{HasValue}
use lib.Ieee.Scale.{round_same}
use lib.Ieee.Fits.{down_pos}
use Rattle.exact.specs.Num.{signed, Exact}
use Rattle.exact.specs.Equal.{eq_z}

pub size_signed : (s : Bool) (n : ℕ) → nat_abs (signed s n) ≡ n
size_signed true zero = refl
size_signed true (suc n) = refl
size_signed false n = refl

pub signed_not : (s : Bool) (n : ℕ) → signed (not s) n ≡ neg_ℤ (signed s n)
signed_not true n = sym (neg_ℤ-neg_ℤ (pos n))
signed_not false n = refl

pub signed_mul : (s t : Bool) (a b : ℕ) → signed (unlike s t) (a * b) ≡ signed s a *ℤ signed t b
signed_mul false false a b = refl
signed_mul false true a zero = rw mul-zero
signed_mul false true a (suc b) = refl
signed_mul true false zero b = rw zero-mul
signed_mul true false (suc a) b = refl
signed_mul true true zero b = ap pos (zero-mul b) ∙ sym (zero-*ℤ (signed true b))
signed_mul true true (suc a) zero = rw mul-zero
signed_mul true true (suc a) (suc b) = refl

pub minus_pos : (a b : ℕ) → b ≤ a → pos (a - b) ≡ pos a -ℤ pos b
minus_pos a b h = sym (+ℤ-neg_ℤ_cancel (pos (a - b)) (pos b)) ∙ ap (λ (n : ℕ). pos n -ℤ pos b) (back a b h)
  where
    back : (a b : ℕ) → b ≤ a → a - b + b ≡ a
    back a b h = omega arith

-- ---- a sum sees only the values of its fractions
cross : (A A' B B' k k' : ℕ) → 0 < k → 0 < k' → A * k' ≡ A' * k → B * k' ≡ B' * k → A < B → A' < B'
cross A A' B B' k k' K K' p q h = lt_of_mul-lt-mul_right k (subst (λ (n : ℕ). n < B' * k) p (subst (λ (n : ℕ). A * k' < n) q (mul-lt-mul_of_pos_right h K')))

ltb_same : (a b c d : ℕ) → (a < b → c < d) → (c < d → a < b) → ltb a b ≡ ltb c d
ltb_same a b c d f g = go (ltb c d) (ltb-true c d) (ltb-false c d)
  where
    no : (a b c d : ℕ) → (a < b → c < d) → d ≤ c → b ≤ a
    no a b c d f h = go (ltb a b) (ltb-true a b) (ltb-false a b)
      where
        go : (t : Bool) → (t ≡ true → a < b) → (t ≡ false → b ≤ a) → b ≤ a
        go true y n = let k : c < d = f (y refl) in omega arith
        go false y n = n refl

    go : (t : Bool) → (t ≡ true → c < d) → (t ≡ false → d ≤ c) → ltb a b ≡ t
    go true y n = lt-ltb a b (g (y refl))
    go false y n = le-ltb a b (no a b c d f (n refl))

module _ (A A' B B' k k' : ℕ) (K : 0 < k) (K' : 0 < k') (p : A * k' ≡ A' * k) (q : B * k' ≡ B' * k) where
  ltb_cross : ltb A B ≡ ltb A' B'
  ltb_cross = ltb_same A B A' B' (cross A A' B B' k k' K K' p q) (cross A' A B' B k' k K' K (sym p) (sym q))

  plus_cross : (A + B) * k' ≡ (A' + B') * k
  plus_cross = add-mul A B k' ∙ (cc) ∙ sym (add-mul A' B' k)

minus_mul : (a b k : ℕ) → (a - b) * k ≡ a * k - b * k
minus_mul a b k = mul_comm (a - b) k ∙ mul-sub k a b ∙ rw (mul_comm k a, mul_comm k b)

sum_same : (f : Format) (s t : Bool) (A A' B B' k k' : ℕ) → 0 < k → 0 < k' → A * k' ≡ A' * k → B * k' ≡ B' * k → sum f s A t B k ≡ sum f s A' t B' k'
unfolding sum
sum_same f s t A A' B B' k k' K K' p q =
    let l : ltb A B ≡ ltb A' B' = ltb_cross A A' B B' k k' K K' p q in
    let g : ltb B A ≡ ltb B' A' = ltb_cross B B' A A' k k' K K' q p in
    let a : round f s (A + B) k ≡ round f s (A' + B') k' = round_same f s (A + B) k (A' + B') k' K K' (plus_cross A A' B B' k k' K K' p q) in
    let b : round f t (B - A) k ≡ round f t (B' - A') k' = round_same f t (B - A) k (B' - A') k' K K' (minus_mul B A k' ∙ (cc) ∙ sym (minus_mul B' A' k)) in
    let d : round f (s && ltb B A) (A - B) k ≡ round f (s && ltb B' A') (A' - B') k' =
    ap (λ (u : Bool). round f (s && u) (A - B) k) g ∙ round_same f (s && ltb B' A') (A - B) k (A' - B') k' K K' (minus_mul A B k' ∙ (cc) ∙ sym (minus_mul A' B' k)) in
    rw (l, a, b, d)

-- ---- the operations on exact fractions with one denominator
pub add_at : (f : Format) (x y : Float) (s t : Bool) (A B k : ℕ) → 0 < k → HasValue x s A k → HasValue y t B k → add f x y ≡ sum f s A t B k
unfolding add
add_at f nan y s t A B k K p q = absurd p
add_at f (inf u) y s t A B k K p q = absurd p
add_at f (fin u m e) nan s t A B k K p q = absurd q
add_at f (fin u m e) (inf v) s t A B k K p q = absurd q
add_at f (fin u m e) (fin v n d) s t A B k K p q =
    rw (p.0, q.0)
    (sum_same f s t (m * up e * down d) A (n * up d * down e) B (down e * down d) k (mul-pos (down_pos e) (down_pos d)) K
    (mul_right_comm (m * up e) (down d) k ∙ ap (λ (z : ℕ). z * down d) p.1 ∙ mul_assoc A (down e) (down d))
    (mul_right_comm (n * up d) (down e) k ∙ ap (λ (z : ℕ). z * down e) q.1 ∙ mul_assoc B (down d) (down e) ∙ ap (λ (z : ℕ). B * z) (mul_comm (down d) (down e))))

pub mul_at : (f : Format) (x y : Float) (s t : Bool) (a b c d : ℕ) → 0 < c → 0 < d → HasValue x s a c → HasValue y t b d → mul f x y ≡ round f (unlike s t) (a * b) (c * d)
unfolding mul
mul_at f nan y s t a b c d C D p q = absurd p
mul_at f (inf u) y s t a b c d C D p q = absurd p
mul_at f (fin u m e) nan s t a b c d C D p q = absurd q
mul_at f (fin u m e) (inf v) s t a b c d C D p q = absurd q
mul_at f (fin u m e) (fin v n g) s t a b c d C D p q =
    rw (p.0, q.0)
    (round_same f (unlike s t) (m * up e * (n * up g)) (down e * down g) (a * b) (c * d) (mul-pos (down_pos e) (down_pos g)) (mul-pos C D)
    (swap (m * up e) (n * up g) c d ∙ (cc (p.1, q.1)) ∙ sym (swap a b (down e) (down g))))
  where
    swap : (w x y z : ℕ) → w * x * (y * z) ≡ (w * y) * (x * z)
    swap w x y z = simp (mul_assoc, mul_left_comm)

lt_at : (x y : Float) (s t : Bool) (A B k : ℕ) → 0 < k → HasValue x s A k → HasValue y t B k → lt x y ≡ below s A t B
unfolding lt
lt_at nan y s t A B k K p q = absurd p
lt_at (inf u) y s t A B k K p q = absurd p
lt_at (fin u m e) nan s t A B k K p q = absurd q
lt_at (fin u m e) (inf v) s t A B k K p q = absurd q
lt_at (fin u m e) (fin v n d) s t A B k K p q =
    rw (p.0, q.0)
    (below_same s t (m * up e * down d) A (n * up d * down e) B (down e * down d) k (mul-pos (down_pos e) (down_pos d)) K
    (mul_right_comm (m * up e) (down d) k ∙ ap (λ (z : ℕ). z * down d) p.1 ∙ mul_assoc A (down e) (down d))
    (mul_right_comm (n * up d) (down e) k ∙ ap (λ (z : ℕ). z * down e) q.1 ∙ mul_assoc B (down d) (down e) ∙ ap (λ (z : ℕ). B * z) (mul_comm (down d) (down e))))
  where
    below_same : (s t : Bool) (A A' B B' k k' : ℕ) → 0 < k → 0 < k' → A * k' ≡ A' * k → B * k' ≡ B' * k → below s A t B ≡ below s A' t B'
    below_same false false A A' B B' k k' K K' p q = ltb_cross A A' B B' k k' K K' p q
    below_same false true A A' B B' k k' K K' p q = refl
    below_same true false A A' B B' k k' K K' p q = ltb_cross 0 0 (A + B) (A' + B') k k' K K' (zero-mul k' ∙ sym (zero-mul k)) (plus_cross A A' B B' k k' K K' p q)
    below_same true true A A' B B' k k' K K' p q = ltb_cross B B' A A' k k' K K' q p

eqb_cross : (A A' B B' k k' : ℕ) → 0 < k → 0 < k' → A * k' ≡ A' * k → B * k' ≡ B' * k → eqb A B ≡ eqb A' B'
eqb_cross A A' B B' k k' K K' p q = go (eqb A' B') (eqb-true A' B') (eqb-false A' B')
  where
    over : (A A' B B' k k' : ℕ) → 0 < k → A * k' ≡ A' * k → B * k' ≡ B' * k → A ≡ B → A' ≡ B'
    over A A' B B' k k' K p q e = eq_of_mul-eq-mul_right k K A' B' (sym p ∙ ap (λ (n : ℕ). n * k') e ∙ q)

    go : (t : Bool) → (t ≡ true → A' ≡ B') → (t ≡ false → A' ≡ B' → ⊥) → eqb A B ≡ t
    go true y n = eq-eqb A B (over A' A B' B k' k K' (sym p) (sym q) (y refl))
    go false y n = ne_eqb A B (λ e. n refl (over A A' B B' k k' K p q e))

eq_at : (x y : Float) (s t : Bool) (A B k : ℕ) → 0 < k → HasValue x s A k → HasValue y t B k → eq x y ≡ level s A t B
unfolding eq
eq_at nan y s t A B k K p q = absurd p
eq_at (inf u) y s t A B k K p q = absurd p
eq_at (fin u m e) nan s t A B k K p q = absurd q
eq_at (fin u m e) (inf v) s t A B k K p q = absurd q
eq_at (fin u m e) (fin v n d) s t A B k K p q =
    let c = down e * down d in
    let P : m * up e * down d * k ≡ A * c = mul_right_comm (m * up e) (down d) k ∙ ap (λ (z : ℕ). z * down d) p.1 ∙ mul_assoc A (down e) (down d) in
    let Q : n * up d * down e * k ≡ B * c = mul_right_comm (n * up d) (down e) k ∙ ap (λ (z : ℕ). z * down e) q.1 ∙ mul_assoc B (down d) (down e) ∙ ap (λ (z : ℕ). B * z) (mul_comm (down d) (down e)) in
    let C : 0 < c = mul-pos (down_pos e) (down_pos d) in
    let a : eqb (m * up e * down d) (n * up d * down e) ≡ eqb A B = eqb_cross (m * up e * down d) A (n * up d * down e) B c k C K P Q in
    let z : eqb (m * up e * down d) 0 ≡ eqb A 0 = eqb_cross (m * up e * down d) A 0 0 c k C K P (zero-mul k ∙ sym (zero-mul c)) in
    rw (p.0, q.0, a, z)

-- ---- by whole numbers: comparisons
ltb_zero : (a : ℕ) → ltb a 0 ≡ false
ltb_zero a = le-ltb a 0 zero-le

ltb_suc : (a b : ℕ) → ltb (suc a) (suc b) ≡ ltb a b
ltb_suc a b = ltb_same (suc a) (suc b) a b (λ h. down' a b h) (λ h. up' a b h)
  where
    down' : (a b : ℕ) → suc a < suc b → a < b
    down' a b h = omega arith

    up' : (a b : ℕ) → a < b → suc a < suc b
    up' a b h = omega arith

below_is : (s t : Bool) (a b : ℕ) → below s a t b ≡ lt_z (signed s a) (signed t b)
below_is false false a b = refl
below_is false true a zero = sym (ltb_zero a)
below_is false true a (suc b) = refl
below_is true false zero b = rw zero-add
below_is true false (suc a) b = lt-ltb 0 (suc a + b) (some a b)
  where
    some : (a b : ℕ) → 0 < suc a + b
    some a b = omega arith
below_is true true zero zero = refl
below_is true true zero (suc b) = ltb_zero (suc b)
below_is true true (suc a) zero = lt-ltb 0 (suc a) (suc-le-suc zero-le)
below_is true true (suc a) (suc b) = ltb_suc b a

and_false : (b : Bool) → (b && false) ≡ false
and_false true = refl
and_false false = refl

and_true : (b : Bool) → (b && true) ≡ b
and_true true = refl
and_true false = refl

level_is : (s t : Bool) (a b : ℕ) → level s a t b ≡ eq_z (signed s a) (signed t b)
level_is false false a b = and_true (eqb a b)
level_is false true zero zero = refl
level_is false true (suc a) zero = ap (λ (u : Bool). u && (false || eqb (suc a) 0)) (ne_eqb (suc a) 0 (λ e. no a e)) ∙ sym (ne_eqb (suc a) 0 (λ e. no a e))
  where
    no : (a : ℕ) → suc a ≡ 0 → ⊥
    no a e = omega arith
level_is false true zero (suc b) = ap (λ (u : Bool). u && true) (ne_eqb 0 (suc b) (λ e. no b e))
  where
    no : (a : ℕ) → 0 ≡ suc a → ⊥
    no a e = omega arith
level_is false true (suc a) (suc b) = rw (ne_eqb (suc a) 0 (λ e. no a e)) (and_false (eqb (suc a) (suc b)))
  where
    no : (a : ℕ) → suc a ≡ 0 → ⊥
    no a e = omega arith
level_is true false zero b = and_true (eqb 0 b)
level_is true false (suc a) b = rw (ne_eqb (suc a) 0 (λ e. no a e)) (and_false (eqb (suc a) b))
  where
    no : (a : ℕ) → suc a ≡ 0 → ⊥
    no a e = omega arith
level_is true true zero zero = refl
level_is true true zero (suc b) = rw (ne_eqb 0 (suc b) (λ e. no b e))
  where
    no : (a : ℕ) → 0 ≡ suc a → ⊥
    no a e = omega arith
level_is true true (suc a) zero = rw (ne_eqb (suc a) 0 (λ e. no a e))
  where
    no : (a : ℕ) → suc a ≡ 0 → ⊥
    no a e = omega arith
level_is true true (suc a) (suc b) = and_true (eqb (suc a) (suc b)) ∙ eqb_cross' a b
  where
    same : (a b : ℕ) → suc a ≡ suc b → a ≡ b
    same a b e = omega arith

    eqb_cross' : (a b : ℕ) → eqb (suc a) (suc b) ≡ eqb a b
    eqb_cross' a b = go (eqb a b) (eqb-true a b) (eqb-false a b)
      where
        go : (t : Bool) → (t ≡ true → a ≡ b) → (t ≡ false → a ≡ b → ⊥) → eqb (suc a) (suc b) ≡ t
        go true y n = eq-eqb (suc a) (suc b) (ap suc (y refl))
        go false y n = ne_eqb (suc a) (suc b) (λ e. n refl (same a b e))

leb_or : (a b : ℕ) → (ltb a b || eqb a b) ≡ leb a b
leb_or a b = go (ltb a b) (eqb a b) (ltb-true a b) (ltb-false a b) (eqb-true a b) (eqb-false a b)
  where
    strict : (a b : ℕ) → b ≤ a → (a ≡ b → ⊥) → b < a
    strict a b h k = elim (eq-or-lt_of_le h) [ inl e ↦ absurd (k (sym e)) | inr l ↦ l ]

    go : (t u : Bool) → (t ≡ true → a < b) → (t ≡ false → b ≤ a) → (u ≡ true → a ≡ b) → (u ≡ false → a ≡ b → ⊥) → (t || u) ≡ leb a b
    go true u p q r s = sym (le-leb a b (le_of_lt (p refl)))
    go false true p q r s = sym (le-leb a b (le_of_eq (r refl)))
    go false false p q r s = sym (lt-leb a b (strict a b (q refl) (s refl)))

or_false : (b : Bool) → (b || false) ≡ b
or_false true = refl
or_false false = refl

eqb_sym : (a b : ℕ) → eqb a b ≡ eqb b a
eqb_sym a b = go (eqb b a) (eqb-true b a) (eqb-false b a)
  where
    go : (t : Bool) → (t ≡ true → b ≡ a) → (t ≡ false → b ≡ a → ⊥) → eqb a b ≡ t
    go true y n = eq-eqb a b (sym (y refl))
    go false y n = ne_eqb a b (λ e. n refl (sym e))

le_z_or : (a b : ℤ) → (lt_z a b || eq_z a b) ≡ le_z a b
le_z_or (pos a) (pos b) = leb_or a b
le_z_or (pos a) (negsuc b) = refl
le_z_or (negsuc a) (pos b) = refl
le_z_or (negsuc a) (negsuc b) = rw (eqb_sym a b) (leb_or b a)

module _ {x y : Float} {a b : ℤ} {k : ℕ} (K : 0 < k) (p : Exact x a k) (q : Exact y b k) where
  pub lt_is : lt x y ≡ lt_z a b
  lt_is = lt_at x y p.sign q.sign p.size q.size k K p.has q.has ∙ below_is p.sign q.sign p.size q.size ∙ rw (p.is, q.is)

  pub eq_is : eq x y ≡ eq_z a b
  eq_is = eq_at x y p.sign q.sign p.size q.size k K p.has q.has ∙ level_is p.sign q.sign p.size q.size ∙ rw (p.is, q.is)

  pub le_is : le x y ≡ le_z a b
  unfolding le
  le_is = rw (lt_is, eq_is) (le_z_or a b)
