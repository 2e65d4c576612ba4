-- `stepped_cases::act_of`: a work space that passes the tests is sound.
use borrow.Author.Rules.{rules}
use Rattle.finishing.proofs.Calls.{tested}
use Rattle.stepped_cases.proofs.act_of.Goals as goal

pub act_on-requires : goal.act_on-requires
act_on-requires c = search (tested, rules)
