-- area_outpt meets its contract: the edges yet to come, with the sum so far, make the area.
use Rattle.walks.proofs.Visiting.{Summing, to_go}
use Rattle.geometry.specs.Plane.{area_outpt}
use Rattle.walks.specs.Ring.{values_from}
use Rattle.walks.proofs.area_outpt.Given as goal

abbrev pub invariant-loop-op2 : goal.invariant-loop-op2
invariant-loop-op2 l = Summing l.w l.op_start l.op2 l.result (area_outpt (values_from l.w l.op_start))

abbrev pub decreases-loop-op2 : goal.decreases-loop-op2
decreases-loop-op2 l = to_go l.w l.op_start l.op2
