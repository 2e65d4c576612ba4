-- `decide` meets its contract.
use borrow.Author.Rules.{rules}
use Rattle.turns.proofs.Ready.{going, decided}
use Rattle.turns.proofs.decide.decide.Goals as goal

pub decide_due-requires : goal.decide_due-requires
decide_due-requires c = search (going, rules)

pub returns : goal.returns
returns c = search (decided)
