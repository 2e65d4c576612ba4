-- The listing's words, as bytes.
use Rattle.std.specs.Prelude.{ℕ, List, [], ◌∷◌}

-- "closed", "open", "piece", "hole", "flat", "line", "refused", "charge"
abbrev pub CLOSED : List ℕ
CLOSED = 99 ∷ 108 ∷ 111 ∷ 115 ∷ 101 ∷ 100 ∷ []

abbrev pub OPEN : List ℕ
OPEN = 111 ∷ 112 ∷ 101 ∷ 110 ∷ []

abbrev pub PIECE : List ℕ
PIECE = 112 ∷ 105 ∷ 101 ∷ 99 ∷ 101 ∷ []

abbrev pub HOLE : List ℕ
HOLE = 104 ∷ 111 ∷ 108 ∷ 101 ∷ []

abbrev pub FLAT : List ℕ
FLAT = 102 ∷ 108 ∷ 97 ∷ 116 ∷ []

abbrev pub LINE : List ℕ
LINE = 108 ∷ 105 ∷ 110 ∷ 101 ∷ []

abbrev pub REFUSED : List ℕ
REFUSED = 114 ∷ 101 ∷ 102 ∷ 117 ∷ 115 ∷ 101 ∷ 100 ∷ []

abbrev pub CHARGE : List ℕ
CHARGE = 99 ∷ 104 ∷ 97 ∷ 114 ∷ 103 ∷ 101 ∷ []
