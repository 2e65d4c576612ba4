-- `polygons::levels` meets its contract.
use Prim.Native.Nat.{◌-◌}
use Rattle.listing.specs.Fields.{points_in}
use Rattle.polygons.specs.Polygon as polygon
use Rattle.polygons.specs.Needs.{Leveling}
use Rattle.polygons.proofs.levels.Given as goal

abbrev pub invariant-loop-i : goal.invariant-loop-i
invariant-loop-i l = Leveling l.pt l.t l.n l.at (l.n - l.i) (polygon.levels l.pt (points_in l.t l.n l.from))
