-- `test_text::ring::put_places` meets its contract.
use Prim.Native.Nat.{◌-◌}
use Rattle.job.specs.Limits.{POINTS}
use Rattle.test_text.proofs.Ringing.{Placing}
use Rattle.test_text.proofs.ring.put_places.Given as goal

abbrev pub invariant-loop : goal.invariant-loop
invariant-loop l = Placing l.named l.w l.a l.at l.initial.out l.out l.k l.p (POINTS - l.counter)
