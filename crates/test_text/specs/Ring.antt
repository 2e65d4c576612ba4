-- A ring as the test programs print it: " ring ", how many points, and each from the first in walk order as X,Y,Z or, named, as NUMBER:X,Y,Z; a line.
use Rattle.std.specs.Prelude.{ℕ, ◌-◌, Bool, true, false, cond, List, [], ◌∷◌, ◌++◌, ltb, length}
use Rattle.job.specs.Limits as limit
use Rattle.rings.specs.Table.{ring_from}
use Rattle.store.specs.Field.{pt, X, Y, Z}
use Rattle.store.specs.Words.{view}
use Rattle.store.specs.Named.{next_of}
use Rattle.text.specs.Text.{SPACE, COMMA, MINUS, NEWLINE, decimal}
use Rattle.listing.specs.Lines.{depth_text}

abbrev pub COLON : ℕ
COLON = 58

-- " ring "
abbrev pub RING : List ℕ
RING = 32 ∷ 114 ∷ 105 ∷ 110 ∷ 103 ∷ 32 ∷ []

-- a coordinate, by its word
unfoldable pub coordinate_text : ℕ → List ℕ
coordinate_text v = cond (ltb v limit.COORDINATE) ((MINUS ∷ []) ++ decimal (limit.COORDINATE - v)) (decimal (v - limit.COORDINATE))

abbrev pub name_text : Bool → ℕ → List ℕ
name_text true p = decimal p ++ (COLON ∷ [])
name_text false p = []

abbrev pub pair_text : ℕ → ℕ → List ℕ
pair_text x y = coordinate_text x ++ (COMMA ∷ []) ++ coordinate_text y

-- a point after a space
abbrev pub place_text : Bool → List ℕ → ℕ → List ℕ
place_text named w p = (SPACE ∷ []) ++ name_text named p ++ pair_text (view w (pt X) p) (view w (pt Y) p) ++ (COMMA ∷ []) ++ depth_text (view w (pt Z) p)

abbrev pub places_text : Bool → List ℕ → List ℕ → List ℕ
places_text named w [] = []
places_text named w (p ∷ ps) = place_text named w p ++ places_text named w ps

-- the ring whose first point is a, which may be none
unfoldable pub ring_text : Bool → List ℕ → ℕ → List ℕ
ring_text named w a = RING ++ decimal (length (ring_from (next_of w) a)) ++ places_text named w (ring_from (next_of w) a) ++ (NEWLINE ∷ [])
