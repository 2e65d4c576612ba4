-- step_boxed meets its contract.
use borrow.Author.Rules.{rules}
use Rattle.boxed_steps.proofs.Carrying.{boxable, unchanged, done, refused}
use Rattle.boxed_steps.proofs.step_boxed.Goals as goal

pub returns-in_err-changes : goal.returns-in_err-changes
returns-in_err-changes c = search (refused, rules)

pub box_stepped-requires : goal.box_stepped-requires
box_stepped-requires c = (search boxable, unchanged _ _ c.requires.1 _ _ c.step_ring.ensures.0 _ c.requires.0 c.step_ring.ensures.1 c.in_ok-changes.was)

pub returns : goal.returns
returns c = done _ _ c.requires.1 _ _ c.step_ring.ensures.0 c.in_ok-changes.changes c.get-n.result c.box_stepped.new.w c.in_ok-changes.was (search rules) (search rules)
