-- `accepting::accept` meets its contract: read, then judged.
use borrow.Author.Rules.{rules}
use Rattle.accepting.proofs.Accepting.{may_judge, was_judged, was_refused}
use Rattle.accepting.proofs.accept.Goals as goal

pub judge-requires : goal.judge-requires
judge-requires c = may_judge _ _ _ _ _ _ _ _ _ c.requires c.read_job.ensures c.in_ok-j.was

pub returns : goal.returns
returns c = was_judged _ _ _ _ _ _ _ _ c.read_job.ensures _ _ c.in_ok-j.was c.judge.ensures

pub returns-in_err-j : goal.returns-in_err-j
returns-in_err-j c = search (rules, was_refused _ _ _ _ _ _ _ _ c.read_job.ensures _ c.in_err-j.was)
