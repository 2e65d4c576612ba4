-- `owners::follow` meets its contract: after `h` owners the walk is at `q`.
use Rattle.owners.proofs.Following.{Passing}
use Rattle.owners.proofs.follow.Given as goal

abbrev pub invariant-loop-h : goal.invariant-loop-h
invariant-loop-h l = Passing l.w l.i l.q l.h
