-- `visits::gather` meets its contract: the loop goes from ring to ring as long as their points lie in one word.
use Prim.Native.Nat.{◌-◌, ◌/◌}
use Rattle.marks.specs.Marks.{BITS}
use Rattle.visits.proofs.Rounds.{Gathering}
use Rattle.visits.proofs.gather.Given as goal

abbrev pub invariant-loop-c : goal.invariant-loop-c
invariant-loop-c l = Gathering l.w l.initial.c l.c (l.initial.c.point / BITS) l.bits

abbrev pub decreases-loop-c : goal.decreases-loop-c
decreases-loop-c l = l.n - l.c.ring
