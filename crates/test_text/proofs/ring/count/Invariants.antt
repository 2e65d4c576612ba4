-- `test_text::ring::count` meets its contract.
use Prim.Native.Nat.{◌-◌}
use Rattle.job.specs.Limits.{POINTS}
use Rattle.test_text.proofs.Ringing.{Counting}
use Rattle.test_text.proofs.ring.count.Given as goal

abbrev pub invariant-loop : goal.invariant-loop
invariant-loop l = Counting l.w l.a l.p l.n (POINTS - l.counter)
