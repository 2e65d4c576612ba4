-- `joins::get_real_outrec` meets its contract: each hop leaves fewer.
use Rattle.job.specs.Limits as limit
use Rattle.store.specs.Named.{first_of, owner_of}
use Rattle.joins.proofs.Resolving.{hops}
use Rattle.joins.proofs.Finding.{Going}
use Rattle.joins.proofs.get_real_outrec.Given as goal

abbrev pub invariant-loop-f : goal.invariant-loop-f
invariant-loop-f l = Going l.w l.r l.q l.f

abbrev pub decreases-loop-f : goal.decreases-loop-f
decreases-loop-f l = hops (first_of l.w) (owner_of l.w) limit.RECORDS l.q
