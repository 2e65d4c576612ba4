-- The other setting of `reverse_solution`, and paths in opposite order.
use Rattle.std.specs.Prelude.{ℕ, zero, suc, ◌+◌, ◌-◌, ◌/◌, ◌%◌, cond, List, map, reverse, eqb}
use Rattle.geometry.specs.declared.Point.{Point}
use Rattle.geometry.specs.Plane.{ground}
use Rattle.store.specs.Field.{pt, rc, ct, SETTINGS, POINTS, RECORDS}
use Rattle.store.specs.Words.{Store}

-- bit 1, `reverse_solution`, turned over
abbrev pub other_bits : ℕ → ℕ
other_bits v = cond (eqb (v / 2 % 2) 1) (v - 2) (v + 2)

-- the same points, records and counts under the other setting
abbrev pub turned_over : Store → Store
turned_over s (pt f) i = s (pt f) i
turned_over s (rc f) i = s (rc f) i
turned_over s (ct SETTINGS) zero = other_bits (s (ct SETTINGS) zero)
turned_over s (ct SETTINGS) (suc i) = s (ct SETTINGS) (suc i)
turned_over s (ct POINTS) i = s (ct POINTS) i
turned_over s (ct RECORDS) i = s (ct RECORDS) i

-- a path's points without their z
abbrev pub on_ground : List Point → List Point
on_ground path = map ground path

-- each path without them
abbrev pub all_on_ground : List (List Point) → List (List Point)
all_on_ground paths = map on_ground paths

-- each path in exactly opposite order, at its place
abbrev pub opposite : List (List Point) → List (List Point)
opposite paths = map reverse paths
