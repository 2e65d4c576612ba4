-- step_record meets its contract.
use borrow.Author.Rules.{rules}
use Rattle.boxed_steps.proofs.Carrying.{steps, not_live}
use Rattle.boxed_steps.proofs.step_record.Goals as goal

pub step_boxed-requires : goal.step_boxed-requires
step_boxed-requires c = (search rules, search steps)

pub returns : goal.returns
returns c = search not_live
