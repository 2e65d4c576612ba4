-- `listing::put_points` meets its contract: the points passed are poured.
use Prim.Native.Nat.{◌-◌}
use Rattle.listing.specs.Needs.{Showing}
use Rattle.listing.proofs.put_points.Given as goal

abbrev pub invariant-loop-i : goal.invariant-loop-i
invariant-loop-i l = Showing l.t l.from l.n l.at l.initial.out l.out l.k l.f (l.n - l.i)
