-- `put_records` meets its contract: the lines of the records passed are poured.
use Rattle.store.specs.Words.{view}
use Rattle.job_reasons.specs.Needs.{Going}
use Rattle.job_reasons.proofs.put_records.Given as goal

abbrev pub invariant-loop-i : goal.invariant-loop-i
invariant-loop-i l = Going (view l.w) l.initial.out l.out l.k l.i
