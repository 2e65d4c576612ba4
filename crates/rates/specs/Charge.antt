-- The charge: document 02, Ask 1, "Magnitude times rate equals charge times 20,000,000,000 plus a remainder below that divisor".
use Rattle.std.specs.Prelude.{ℕ, ◌+◌, ◌*◌, ◌/◌, ◌%◌, ◌<◌, ◌≡◌}
use Rattle.rates.specs.declared.Charge.{Charge}

-- twice the square micrometres of a square decimetre, since areas are doubled
abbrev pub DIVISOR : ℕ
DIVISOR = 20000000000

-- the paper's equation
pub record Charges (magnitude rate charge remainder : ℕ) : Type 0 where
  pub equation : magnitude * rate ≡ charge * DIVISOR + remainder
  pub below : remainder < DIVISOR

-- the two numbers: `Charges` holds of them, and of no others (`charges`, `only_charges`)
unfoldable pub charge_of : ℕ → ℕ → Charge
charge_of magnitude rate = record { quotient = magnitude * rate / DIVISOR; remainder = magnitude * rate % DIVISOR }
