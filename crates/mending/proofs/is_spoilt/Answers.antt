-- `mending::is_spoilt` meets its contract.
use borrow.Author.Rules.{rules}
use Rattle.mending.proofs.Tables.{spoilt_is}
use Rattle.mending.proofs.is_spoilt.Goals as goal

pub returns : goal.returns
returns c = search (rules, spoilt_is)
