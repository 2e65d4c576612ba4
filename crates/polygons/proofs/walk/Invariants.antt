-- `polygons::walk` meets its contract.
use Prim.Native.Nat.{◌-◌}
use Rattle.listing.specs.Fields.{point_in, points_in}
use Rattle.polygons.specs.Polygon as polygon
use Rattle.polygons.specs.Needs.{Walking}
use Rattle.polygons.proofs.walk.Given as goal

abbrev pub invariant-loop-i : goal.invariant-loop-i
invariant-loop-i l = Walking l.pt l.t l.before l.at (l.n - l.i) l.tour (polygon.walk l.pt l.initial.tour (point_in l.t l.prev) (points_in l.t l.n l.from))
