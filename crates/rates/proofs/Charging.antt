-- The charge and the remainder satisfy the paper's equation, and no other two numbers do.
use Prim.Native.Nat.{ℕ, ◌+◌, ◌*◌, ◌/◌, ◌%◌, ◌≤◌, ◌<◌, ◌^◌}
use mathlib.Core.Path.{◌≡◌}
use native.Mathlib.Omega.{arith}
use native.Mathlib.Nat.{mul-le-mul}
use Rattle.rates.specs.declared.Charge.{Charge}
use Rattle.rates.specs.Rate.{LARGEST}
use Rattle.rates.specs.Charge.{DIVISOR, Charges, charge_of}

pub charges : (m r : ℕ) → Charges m r (charge_of m r).quotient (charge_of m r).remainder
unfolding charge_of
charges m r = let n = m * r in record { equation = split n; below = small n }
  where
    split : (n : ℕ) → n ≡ n / DIVISOR * DIVISOR + n % DIVISOR
    split n = omega arith

    small : (n : ℕ) → n % DIVISOR < DIVISOR
    small n = omega arith

pub only_charges : (m r q s : ℕ) → Charges m r q s → (q ≡ (charge_of m r).quotient) × (s ≡ (charge_of m r).remainder)
unfolding charge_of
only_charges m r q s c = (quotient (m * r) c.equation c.below, rest (m * r) c.equation c.below)
  where
    quotient : (n : ℕ) → n ≡ q * DIVISOR + s → s < DIVISOR → q ≡ n / DIVISOR
    quotient n e h = omega arith

    rest : (n : ℕ) → n ≡ q * DIVISOR + s → s < DIVISOR → s ≡ n % DIVISOR
    rest n e h = omega arith

-- no product wraps
pub product_fits : (m r : ℕ) → m ≤ 2 ^ 53 → r ≤ LARGEST → m * r < 2 ^ 64
product_fits m r h k = omega (arith, mul-le-mul h k)

-- as the code has it
pub is_charge : (m r n : ℕ) → n ≡ m * r → ◌≡◌ {A = Charge} (record { quotient = n / DIVISOR; remainder = n % DIVISOR }) (charge_of m r)
unfolding charge_of
is_charge m r n e = rw e
