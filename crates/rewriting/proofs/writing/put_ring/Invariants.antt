-- `rewriting::writing::put_ring` meets its contract: the loop follows the ring.
use Prim.Native.Nat.{◌-◌}
use Rattle.job.specs.Limits.{POINTS}
use Rattle.rewriting.specs.Fields.{corner_field}
use Rattle.rewriting.proofs.Laying.{RingLaid}
use Rattle.rewriting.proofs.writing.put_ring.Given as goal

abbrev pub invariant-loop : goal.invariant-loop
invariant-loop l = RingLaid (corner_field l.w l.numbers l.i) l.w l.a l.at l.initial.out l.k l.p (POINTS - l.counter) l.out
