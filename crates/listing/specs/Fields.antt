-- The paths that a tray's fields hold: document 01, "Output fields: .. value x, y (i32) for each point"; document 02, Ask 9: and z, "12 bytes a point".
use Rattle.std.specs.Prelude.{ℕ, zero, suc, ◌+◌, ◌/◌, ◌%◌, ◌^◌, List, [], ◌∷◌}
use Rattle.numbers.specs.Bytes.{le}
use Rattle.numbers.specs.Raised.{signed}
use Rattle.geometry.specs.declared.Point.{Point}
use Rattle.paths.specs.Tray.{POINT}

-- the point whose bytes begin at `at`; z as its word
unfoldable pub point_in : List ℕ → ℕ → Point
point_in t at = record { x = signed (le 4 at t); y = signed (le 4 (at + 4) t); z = le 4 (at + 8) t }

-- what its bytes keep of a point: its z in 32 bits
abbrev pub as_words : Point → Point
as_words p = record { x = p.x; y = p.y; z = p.z % 2 ^ 32 }

-- n points, one after another
abbrev pub points_in : List ℕ → ℕ → ℕ → List Point
points_in t zero at = []
points_in t (suc n) at = point_in t at ∷ points_in t n (at + POINT)

-- the length of the value of the field that begins at `at`, and where the next field begins
abbrev pub value_length : List ℕ → ℕ → ℕ
value_length t at = le 2 (at + 1) t

abbrev pub next_field : List ℕ → ℕ → ℕ
next_field t at = at + 3 + value_length t at

-- its path
abbrev pub path_in : List ℕ → ℕ → List Point
path_in t at = points_in t (value_length t at / POINT) (at + 3)

-- the paths of n fields, one after another, and where the field after them begins
abbrev pub paths_in : List ℕ → ℕ → ℕ → List (List Point)
paths_in t zero at = []
paths_in t (suc n) at = path_in t at ∷ paths_in t n (next_field t at)

abbrev pub field_after : List ℕ → ℕ → ℕ → ℕ
field_after t zero at = at
field_after t (suc n) at = field_after t n (next_field t at)
