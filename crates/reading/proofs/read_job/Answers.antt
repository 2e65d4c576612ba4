-- `reading::read_job` meets its contract: the fields, then the counts.
use borrow.Author.Rules.{rules}
use Rattle.reading.proofs.Counted.{may_count, read_on, read_refused}
use Rattle.reading.proofs.read_job.Goals as goal

pub put_counts-requires : goal.put_counts-requires
put_counts-requires c = (search rules, may_count _ _ _ _ _ _ _ _ _ c.fill.ensures c.in_ok-j.was)

pub returns : goal.returns
returns c = read_on _ _ _ _ _ _ _ _ c.fill.ensures _ _ c.in_ok-j.was c.put_counts.ensures

pub returns-in_err-j : goal.returns-in_err-j
returns-in_err-j c = search (rules, read_refused)
