-- The bits of a word: one that is set, and the low ones tested at once.
use mathlib.Core.Path.{◌≡◌, refl, sym, ap, ap₂, ◌∙◌}
use mathlib.Core.Bool.{Bool, true, false, ◌&&◌, ◌||◌}
use mathlib.Core.Logic.{◌≢◌}
use Prim.Native.Nat.{ℕ, zero, suc, ◌+◌, ◌-◌, ◌*◌, ◌/◌, ◌%◌, ◌^◌, ◌<◌, max}
use native.Mathlib.Decide.{ℕ_discrete, dec_lt}
use native.Mathlib.Nat.{mod-lt, mul-mod_left, mul-div_cancel, div-eq_of_lt, div_self, pow-suc, max-zero, mod-one}
use native.Mathlib.Numerals.{one-add}
use native.Mathlib.Omega.{arith}
use lib.Arith.{digits_mod, bin_ind}
use lib.Bits.{bit_or, or_shr, or_step}
use lib.Dec.{eqb}
use lib.Pow.{pow_pos, pow-lt, pow-add, mod-pow-add}
use borrow.Author.Tests.{eq-eqb, ne_eqb}
use Rattle.marks.specs.Marks.{bit, with_bit, all_below}

-- a bit is 0 or 1
two_lt : (n : ℕ) → n % 2 < 2
two_lt n = omega arith

-- the lowest bit of "or"
or_odd : (a b : ℕ) → bit_or a b % 2 ≡ max (a % 2) (b % 2)
or_odd a b = ap (λ (x : ℕ). x % 2) (or_step a b) ∙ digits_mod (bit_or (a / 2) (b / 2)) (omega arith)

-- "or" of three
pub or_assoc : (a b c : ℕ) → bit_or (bit_or a b) c ≡ bit_or a (bit_or b c)
or_assoc a =
    bin_ind (λ (n : ℕ). (b c : ℕ) → bit_or (bit_or n b) c ≡ bit_or n (bit_or b c)) (λ b c. refl)
    (λ n ih b c.
    or_step (bit_or n b) c
    ∙ ap₂ (λ (x y : ℕ). x * 2 + y)
    (ap (λ (x : ℕ). bit_or x (c / 2)) (or_shr n b 1) ∙ ih (b / 2) (c / 2) ∙ ap (bit_or (n / 2)) (sym (or_shr b c 1)))
    (ap (λ (x : ℕ). max x (c % 2)) (or_odd n b) ∙ max_assoc (n % 2) (b % 2) (c % 2) ∙ ap (max (n % 2)) (sym (or_odd b c)))
    ∙ sym (or_step n (bit_or b c)))
    a
  where
    max_assoc : (x y z : ℕ) → max (max x y) z ≡ max x (max y z)
    max_assoc x y z = omega arith

-- the bits of a power of two
power_same : (k : ℕ) → 2 ^ k / 2 ^ k % 2 ≡ 1
power_same k = ap (λ (x : ℕ). x % 2) (div_self (pow_pos k))

power_else : (i k : ℕ) → k ≢ i → 2 ^ i / 2 ^ k % 2 ≡ 0
power_else i k d = go (dec_lt i k)
  where
    go : Dec (i < k) → 2 ^ i / 2 ^ k % 2 ≡ 0
    go (yes l) = ap (λ (x : ℕ). x % 2) (div-eq_of_lt (pow-lt l))
    go (no l) =
        let e : i ≡ suc (i - k - 1) + k = omega arith in
        ap (λ (x : ℕ). 2 ^ x / 2 ^ k % 2) e
        ∙ ap (λ (x : ℕ). x / 2 ^ k % 2) (pow-add 2 (suc (i - k - 1)) k)
        ∙ ap (λ (x : ℕ). x % 2) (mul-div_cancel (2 ^ suc (i - k - 1)) (pow_pos k))
        ∙ ap (λ (x : ℕ). x % 2) (pow-suc 2 (i - k - 1))
        ∙ mul-mod_left (2 ^ (i - k - 1)) 2

-- bit i is set, every other is as it was
pub bit_set : (w i k : ℕ) → bit (with_bit w i) k ≡ (eqb k i || bit w k)
unfolding bit with_bit
bit_set w i k = ap (λ (x : ℕ). eqb x 1) (ap (λ (x : ℕ). x % 2) (or_shr w (2 ^ i) k) ∙ or_odd (w / 2 ^ k) (2 ^ i / 2 ^ k)) ∙ by (ℕ_discrete k i)
  where
    by : Dec (k ≡ i) → eqb (max (w / 2 ^ k % 2) (2 ^ i / 2 ^ k % 2)) 1 ≡ (eqb k i || eqb (w / 2 ^ k % 2) 1)
    by (yes e) =
        rw (eq-eqb k i e)
        (eq-eqb (max (w / 2 ^ k % 2) (2 ^ i / 2 ^ k % 2)) 1 (let f : 2 ^ i / 2 ^ k % 2 ≡ 1 = rw e (power_same i) in omega arith))
    by (no d) =
        rw (ne_eqb k i d)
        (rw (power_else i k d, max-zero (w / 2 ^ k % 2)))

-- one digit more
low_more : (w n : ℕ) → w % 2 ^ suc n ≡ (w / 2 ^ n % 2) * 2 ^ n + w % 2 ^ n
low_more w n = ap (λ (x : ℕ). w % 2 ^ x) (sym (one-add n)) ∙ mod-pow-add w 1 n

-- the n low bits are set exactly when the number that they make is the largest of n bits
pub low_is : (w n : ℕ) → eqb (w % 2 ^ n) (2 ^ n - 1) ≡ all_below n (bit w)
unfolding all_below bit
low_is w zero = eq-eqb (w % 1) 0 (mod-one w)
low_is w (suc n) = by (ℕ_discrete (w / 2 ^ n % 2) 1) (ℕ_discrete (w % 2 ^ n) (2 ^ n - 1)) ∙ ap (λ (x : Bool). x && eqb (w / 2 ^ n % 2) 1) (low_is w n)
  where
    double : 2 ^ suc n ≡ 2 ^ n * 2
    double = pow-suc 2 n

    small : w % 2 ^ n < 2 ^ n
    small = mod-lt w (pow_pos n)

    by : Dec (w / 2 ^ n % 2 ≡ 1) → Dec (w % 2 ^ n ≡ 2 ^ n - 1) → eqb (w % 2 ^ suc n) (2 ^ suc n - 1) ≡ (eqb (w % 2 ^ n) (2 ^ n - 1) && eqb (w / 2 ^ n % 2) 1)
    by (yes e) (yes f) = rw (eq-eqb (w % 2 ^ n) (2 ^ n - 1) f, eq-eqb (w / 2 ^ n % 2) 1 e) (eq-eqb (w % 2 ^ suc n) (2 ^ suc n - 1) (omega (arith, rw e at (low_more w n), double, pow_pos n)))
    by (yes e) (no f) = rw (ne_eqb (w % 2 ^ n) (2 ^ n - 1) f) (ne_eqb (w % 2 ^ suc n) (2 ^ suc n - 1) (λ g. f (omega (arith, rw e at (low_more w n), double, pow_pos n))))
    by (no e) f =
        let z : w / 2 ^ n % 2 ≡ 0 = omega (arith, two_lt (w / 2 ^ n)) in
        rw (ne_eqb (w / 2 ^ n % 2) 1 e)
        (ne_eqb (w % 2 ^ suc n) (2 ^ suc n - 1) (λ g. omega (arith, rw z at (low_more w n), double, small, pow_pos n)) ∙ sym (and_false (eqb (w % 2 ^ n) (2 ^ n - 1))))
      where
        and_false : (b : Bool) → (b && false) ≡ false
        and_false true = refl
        and_false false = refl
