-- `numbering::number_ring` meets its contract: the loop follows the ring.
use Prim.Native.Nat.{◌-◌}
use Rattle.job.specs.Limits.{POINTS}
use Rattle.numbering.proofs.Rounds.{Numbering}
use Rattle.numbering.proofs.number_ring.Given as goal

abbrev pub invariant-loop : goal.invariant-loop
invariant-loop l = Numbering l.w l.a l.k l.initial.numbers l.n l.p (POINTS - l.counter) l.numbers
