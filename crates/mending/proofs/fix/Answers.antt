-- `mending::fix` meets its contract: the table, then row 17, then the bytes.
use Rattle.mending.proofs.Once.{fix_stop, fix_done}
use borrow.Author.Rules.{rules}
use Rattle.mending.proofs.fix.Goals as goal

pub returns-then-any_spoilt : goal.returns-then-any_spoilt
returns-then-any_spoilt c = search (rules, fix_stop)

pub returns : goal.returns
returns c = search (rules, fix_done)
