-- `split_walk` meets its contract: each turn is a step that moves on.
use borrow.Author.Rules.{rules}
use Rattle.steps.proofs.Gliding.{due_going, begun, split_stops, split_first, split_start, split_on}
use Rattle.steps.proofs.glide.split_walk.Goals as goal

pub present_of-x-requires : goal.present_of-x-requires
present_of-x-requires c = search (due_going, rules)

pub loop-init : goal.loop-init
loop-init c = search begun

pub returns-then-crosses_at : goal.returns-then-crosses_at
returns-then-crosses_at c = search split_stops

pub returns-then-y-f : goal.returns-then-y-f
returns-then-y-f c = search split_first

pub returns-then-y-s : goal.returns-then-y-s
returns-then-y-s c = search split_start

pub loop-preserved : goal.loop-preserved
loop-preserved c = search split_on

pub returns : goal.returns
returns c = search split_stops
