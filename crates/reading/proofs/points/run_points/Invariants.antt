-- `reading::points::run_points` meets its contract: each turn of the loop is one of reading.
use Prim.Native.Nat.{◌-◌}
use lib.ListN.{length}
use Rattle.reading.proofs.Running.{Placed}
use Rattle.reading.proofs.points.run_points.Given as goal

abbrev pub invariant-loop-k : goal.invariant-loop-k
invariant-loop-k l = Placed l.bytes l.initial.k l.initial.w l.k l.w

abbrev pub decreases-loop-k : goal.decreases-loop-k
decreases-loop-k l = length l.bytes - l.k.at
