-- `segments::level::run` meets its contract.
use Rattle.job.specs.Limits as limit
use Rattle.segments.specs.Level.{along_of, halts_at, run_of}
use Rattle.segments.proofs.Running.{moves, Going}
use Rattle.segments.proofs.level.run.Given as goal

abbrev pub invariant-loop-h : goal.invariant-loop-h
invariant-loop-h l = Going (run_of l.w l.on l.h l.y l.start) l.w (halts_at l.w l.on l.h l.y) (along_of l.w l.on) l.p

abbrev pub decreases-loop-h : goal.decreases-loop-h
decreases-loop-h l = moves limit.POINTS (halts_at l.w l.on l.h l.y) (along_of l.w l.on) l.p
