-- The paths of a store: of every record's ring by value, closed and open ones, records ascending. Document 01, "Path and tray"; `build_paths64`.
use Rattle.std.specs.Prelude.{ℕ, zero, suc, Bool, true, false, cond, not, ◌&&◌, List, [], ◌∷◌, ◌++◌, map, eqb, length}
use Rattle.std.specs.Bool.{beq}
use Rattle.std.proofs.Math.Option.{Option, none, some}
use Rattle.rings.specs.Circle.{turn}
use Rattle.geometry.specs.declared.Point.{Point}
use Rattle.lone.specs.Path.{in_order, without_equals, is_small_ring, build_path64_from_outpt}
use Rattle.store.specs.Words.{Store}
use Rattle.store.specs.Value as value
use Rattle.store.specs.Sound.{recs, ring_at, is_open}
use Rattle.store.specs.Value.{preserve_collinear, reverse_solution}
use Rattle.lone.specs.Plane.{plane}
use Rattle.std.specs.Prelude.{Result, Ok, Err}
use Rattle.paths.specs.declared.NoPath.{NoPath}
use Rattle.paths.specs.declared.NoPath.TheVariants.{Short, Small}

-- the point of number k, by value: the store's own, which stays folded here until a proof asks for its coordinates
unfoldable pub point_at : Store → ℕ → Point
point_at s k = value.point_at s k

-- the points of record i's ring by value, from the first in walk order
abbrev pub points_at : Store → ℕ → List Point
points_at s i = map (point_at s) (ring_at s i)

-- the path, or none, of record i's ring, reversed or not, as an open or a closed one
abbrev pub path_by : Store → Bool → Bool → ℕ → Option (List Point)
path_by s rev o i = build_path64_from_outpt (plane (preserve_collinear s)) rev o (points_at s i)

-- the small test of that path: a closed one has three points, and so has its ring, of which two are really close
abbrev pub small_by : Store → Bool → Bool → ℕ → Bool
small_by s rev o i = not o && eqb (length (without_equals (plane (preserve_collinear s)) (in_order rev (points_at s i)))) 3 && is_small_ring (plane (preserve_collinear s)) (cond rev (points_at s i) (turn (points_at s i)))

-- how building it ends, by the small test and by what was built
abbrev pub end_by : Bool → Option (List Point) → Result ℕ NoPath
end_by small (some path) = Ok (length path)
end_by true none = Err Small
end_by false none = Err Short

unfoldable pub path_end : Store → Bool → Bool → ℕ → Result ℕ NoPath
path_end s rev o i = end_by (small_by s rev o i) (path_by s rev o i)

-- as the settings and the record say
unfoldable pub path_at : Store → ℕ → Option (List Point)
path_at s i = path_by s (reverse_solution s) (is_open s i) i

-- the same, if the record is open (o is true), or if it is closed (o is false)
unfoldable pub path_if : Store → Bool → ℕ → Option (List Point)
path_if s o i = cond (beq (is_open s i) o) (path_at s i) none

abbrev pub listed : {A : Type 0} → Option A → List A
listed none = []
listed (some a) = a ∷ []

-- the paths of the open (or of the closed) ones among the first n records, records ascending
abbrev pub paths_below : ℕ → Bool → Store → List (List Point)
paths_below zero o s = []
paths_below (suc n) o s = paths_below n o s ++ listed (path_if s o n)

-- how many points a path has, none for no path
abbrev pub size_of : Option (List Point) → ℕ
size_of none = 0
size_of (some path) = length path

abbrev pub closed_paths : Store → List (List Point)
closed_paths s = paths_below (recs s) false s

abbrev pub open_paths : Store → List (List Point)
open_paths s = paths_below (recs s) true s
