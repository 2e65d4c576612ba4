-- The listing: document 01's section of that name. A line with the two counts, then a line for each path, closed ones first; or a refusal's line.
use Rattle.std.specs.Prelude.{ℕ, zero, suc, ◌%◌, ◌^◌, Bool, true, false, cond, List, [], ◌∷◌, ◌++◌, ℤ, pos, negsuc, length}
use Rattle.numbers.specs.Raised.{signed}
use Rattle.geometry.specs.declared.Point.{Point}
use Rattle.geometry.specs.Plane.{area_outpt}
use Rattle.text.specs.Text.{SPACE, COMMA, NEWLINE, decimal, signed_text}
use Rattle.listing.specs.Words.{CLOSED, OPEN, PIECE, HOLE, FLAT, LINE, REFUSED}
use Rattle.listing.specs.Fields.{paths_in, field_after}

-- "Piece is positive, hole negative, flat zero"; document 02, Ask 2, of `reverse_solution`: "with that setting, a negative doubled area is a piece and a positive
-- one a hole"
abbrev pub word_of : Bool → ℤ → List ℕ
word_of rev (pos zero) = FLAT
word_of rev (pos (suc n)) = cond rev HOLE PIECE
word_of rev (negsuc n) = cond rev PIECE HOLE

-- a space and `x,y`
abbrev pub place_text : Point → List ℕ
place_text p = (SPACE ∷ []) ++ signed_text p.x ++ (COMMA ∷ []) ++ signed_text p.y

-- the signed number of 32 bits that z's word is
abbrev pub depth_text : ℕ → List ℕ
depth_text z = signed_text (signed (z % 2 ^ 32))

-- "Listings show `x,y,z`"
abbrev pub point_text : Point → List ℕ
point_text p = place_text p ++ (COMMA ∷ []) ++ depth_text p.z

abbrev pub points_text : List Point → List ℕ
points_text [] = []
points_text (p ∷ ps) = point_text p ++ points_text ps

-- "word, points in the path, doubled area (sum of (prev y + y) × (prev x − x)), points"
abbrev pub closed_head : Bool → List Point → List ℕ
closed_head rev path = word_of rev (area_outpt path) ++ (SPACE ∷ []) ++ decimal (length path) ++ (SPACE ∷ []) ++ signed_text (area_outpt path)

-- "Open paths read `line`, a point count, points"
abbrev pub open_head : List Point → List ℕ
open_head path = LINE ++ (SPACE ∷ []) ++ decimal (length path)

abbrev pub head_of : Bool → Bool → List Point → List ℕ
head_of rev false path = closed_head rev path
head_of rev true path = open_head path

-- a path's line, of an open path (o is true) or a closed one
abbrev pub line_of : Bool → Bool → List Point → List ℕ
line_of rev o path = head_of rev o path ++ points_text path ++ (NEWLINE ∷ [])

abbrev pub lines_of : Bool → Bool → List (List Point) → List ℕ
lines_of rev o [] = []
lines_of rev o (p ∷ ps) = line_of rev o p ++ lines_of rev o ps

-- "First line: the two counts"
abbrev pub first_line : ℕ → ℕ → List ℕ
first_line closed open' = CLOSED ++ (SPACE ∷ []) ++ decimal closed ++ (SPACE ∷ []) ++ OPEN ++ (SPACE ∷ []) ++ decimal open' ++ (NEWLINE ∷ [])

-- the listing of a tray that begins with so many closed and then so many open paths, written under a setting of `reverse_solution`
unfoldable pub listing_of : Bool → ℕ → ℕ → List ℕ → List ℕ
listing_of rev closed open' t = first_line closed open' ++ lines_of rev false (paths_in t closed 0) ++ lines_of rev true (paths_in t open' (field_after t closed 0))

-- "A refusal prints `refused` and its number only"
abbrev pub refused_line : ℕ → List ℕ
refused_line n = REFUSED ++ (SPACE ∷ []) ++ decimal n ++ (NEWLINE ∷ [])
