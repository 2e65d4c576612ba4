-- Bytes of a text: signs, and decimal numbers.
use Rattle.std.specs.Prelude.{ℕ, zero, suc, ◌+◌, ◌/◌, ◌%◌, cond, List, [], ◌∷◌, ◌++◌, ltb, ℤ, pos, negsuc}

abbrev pub SPACE : ℕ
SPACE = 32

abbrev pub COMMA : ℕ
COMMA = 44

abbrev pub MINUS : ℕ
MINUS = 45

abbrev pub NEWLINE : ℕ
NEWLINE = 10

-- the digit of a number below ten
abbrev pub digit : ℕ → ℕ
digit n = 48 + n

-- at most f digits
unfoldable pub digits : ℕ → ℕ → List ℕ
digits zero n = []
digits (suc f) n = cond (ltb n 10) (digit n ∷ []) (digits f (n / 10) ++ (digit (n % 10) ∷ []))

-- a number's decimal digits; one below 10 ^ 20, as every number of 64 bits is, has at most twenty
abbrev pub decimal : ℕ → List ℕ
decimal n = digits 20 n

-- a decimal number with its sign
abbrev pub signed_text : ℤ → List ℕ
signed_text (pos n) = decimal n
signed_text (negsuc n) = (MINUS ∷ []) ++ decimal (suc n)
