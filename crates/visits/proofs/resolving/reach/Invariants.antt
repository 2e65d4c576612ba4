-- `visits::resolving::reach` meets its contract: `q` resolves to what `r` does, and fits 32 bits.
use Prim.Native.Nat.{◌-◌, ◌<◌, ◌^◌}
use Rattle.job.specs.Limits.{RECORDS}
use Rattle.visits.proofs.Reaching.{Toward}
use Rattle.visits.proofs.resolving.reach.Given as goal

abbrev pub invariant-loop-turn : goal.invariant-loop-turn
invariant-loop-turn l = Toward l.w l.r l.q (RECORDS - l._turn) × (l.q < 2 ^ 32)
