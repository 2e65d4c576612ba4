-- The rate: document 02, Ask 1, "a whole number of cents for each square decimetre, 1 to 1,000, given as the listing program's argument".
use Rattle.std.specs.Prelude.{ℕ, zero, suc, ◌+◌, ◌-◌, ◌*◌, Bool, true, cond, ◌&&◌, List, [], ◌∷◌, leb, replicate}
use Rattle.rates.specs.declared.Rate.{Rate}
use Rattle.rates.specs.declared.Rate.TheVariants.{NoRate, Cents, Bad}

abbrev pub LARGEST : ℕ
LARGEST = 1000

-- a decimal digit
abbrev pub is_digit : ℕ → Bool
is_digit b = leb 48 b && leb b 57

abbrev pub all_digits : List ℕ → Bool
all_digits [] = true
all_digits (b ∷ s) = is_digit b && all_digits s

-- the number that v and the digits after it make
abbrev pub number_from : ℕ → List ℕ → ℕ
number_from v [] = v
number_from v (b ∷ s) = number_from (10 * v + (b - 48)) s

-- a number within the range
abbrev pub in_range : ℕ → Rate
in_range n = cond (leb 1 n && leb n LARGEST) (Cents n) Bad

-- "one that isn't decimal digits alone, or a rate outside the range"
unfoldable pub rate_in : List ℕ → Rate
rate_in [] = Bad
rate_in (b ∷ s) = cond (all_digits (b ∷ s)) (in_range (number_from 0 (b ∷ s))) Bad

-- a rate that a caller hands over: in the range, or bad
abbrev pub asked : Rate → Rate
asked NoRate = NoRate
asked (Cents n) = in_range n
asked Bad = Bad

-- of all arguments: "Without an argument the listing has no such line", "more than one argument" is bad
abbrev pub rate_of : List (List ℕ) → Rate
rate_of [] = NoRate
rate_of (a ∷ []) = rate_in a
rate_of (a ∷ b ∷ more) = Bad

-- the arguments of a program that was started with so many words, its own name first and then a; what the others are does not matter (`rate_of_all`)
abbrev pub arguments : ℕ → List ℕ → List (List ℕ)
arguments zero a = []
arguments (suc zero) a = []
arguments (suc (suc n)) a = a ∷ replicate n []
