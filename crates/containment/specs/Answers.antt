-- The answers for every ordered pair of paths: document 02, Ask 12, "a byte, 1 for yes and 0 for no, for every ordered pair of closed paths, by rising first place and then second, as `path2_contains_path1`
-- does with the pair's first as path1 .. A path is never tested against itself."
use Rattle.std.specs.Prelude.{ℕ, ◌-◌, ◌*◌, Bool, true, false, List, [], ◌∷◌, ◌++◌}
use Rattle.geometry.specs.declared.Point.{Point}
use Rattle.containing.specs.Contains.{path2_contains_path1}

-- "1 for yes and 0 for no"
abbrev pub bit : Bool → ℕ
bit true = 1
bit false = 0

-- a path, "the pair's first as path1", against others in their order
abbrev pub row : List Point → List (List Point) → List ℕ
row p [] = []
row p (q ∷ qs) = bit (path2_contains_path1 p q) ∷ row p qs

-- each of the paths ps against all that came before it and all that come after it: "by rising first place and then second .. never tested against itself"
abbrev pub rows : List (List Point) → List (List Point) → List ℕ
rows before [] = []
rows before (p ∷ ps) = row p (before ++ ps) ++ rows (before ++ (p ∷ [])) ps

unfoldable pub pair_answers : List (List Point) → List ℕ
pair_answers ps = rows [] ps

-- how many they are, of c paths
abbrev pub pair_count : ℕ → ℕ
pair_count c = c * (c - 1)
