-- `listing::area_in` meets its contract: the sum so far and the edges left come to the area.
use Prim.Native.Nat.{◌-◌}
use Rattle.geometry.specs.Plane.{area_outpt}
use Rattle.listing.specs.Fields.{points_in}
use Rattle.listing.specs.Needs.{Adding}
use Rattle.listing.proofs.area_in.Given as goal

abbrev pub invariant-loop-i : goal.invariant-loop-i
invariant-loop-i l = Adding l.t l.prev l.at (l.n - l.i) l.a (area_outpt (points_in l.t l.n l.from))
