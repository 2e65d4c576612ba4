-- `removal_walk` meets its contract: each turn is a step that moves on.
use borrow.Author.Rules.{rules}
use Rattle.steps.proofs.Gliding.{due_going, begun, removal_stops, removal_drops, removal_ends, removal_on}
use Rattle.steps.proofs.glide.removal_walk.Goals as goal

pub present_of-x-requires : goal.present_of-x-requires
present_of-x-requires c = search (due_going, rules)

pub loop-init : goal.loop-init
loop-init c = search begun

pub returns-then-gone_at : goal.returns-then-gone_at
returns-then-gone_at c = search removal_drops

pub returns-then-n-s : goal.returns-then-n-s
returns-then-n-s c = search removal_ends

pub loop-preserved : goal.loop-preserved
loop-preserved c = search removal_on

pub returns : goal.returns
returns c = search removal_stops
