-- `containing::get_bounds_path` meets its contract.
use Prim.Native.Nat.{◌-◌}
use Rattle.listing.specs.Fields.{points_in}
use Rattle.geometry.specs.Box.{box_of}
use Rattle.containing.specs.Needs.{Widening}
use Rattle.containing.proofs.get_bounds_path.Given as goal

abbrev pub invariant-loop-i : goal.invariant-loop-i
invariant-loop-i l = Widening l.t l.b l.at (l.n - l.i) (box_of (points_in l.t l.n l.from))
