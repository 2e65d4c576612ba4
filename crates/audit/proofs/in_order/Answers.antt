-- in_order meets its contract.
use borrow.Author.Rules.{rules}
use Rattle.audit.proofs.Marking.{in_order, all_zeros}
use Rattle.audit.proofs.in_order.Goals as goal

pub returns : goal.returns
returns c = search (rules, in_order, all_zeros)
