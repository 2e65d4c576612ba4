-- `stepped_cases::act_on`: a live record of a sound work space can be decided.
use borrow.Author.Rules.{rules}
use Rattle.steps.proofs.Steps.{steps}
use Rattle.stepped_cases.proofs.act_on.Goals as goal

pub decide-requires : goal.decide-requires
decide-requires c = search (steps, rules)
