-- `joins::get_real_outrec` meets its contract: each hop leaves fewer.
use borrow.Author.Rules.{rules}
use Rattle.joins.proofs.Finding.{low, begun, going_low, next_low, again, falls, done}
use Rattle.joins.proofs.get_real_outrec.Goals as goal

pub get-f-requires : goal.get-f-requires
get-f-requires c = search (rules, low)

pub loop-f-init : goal.loop-f-init
loop-f-init c = search begun

pub get-q-requires : goal.get-q-requires
get-q-requires c = search (rules, going_low)

pub get-f-requires-in-loop-f : goal.get-f-requires-in-loop-f
get-f-requires-in-loop-f c = search (rules, next_low)

pub loop-f-smaller : goal.loop-f-smaller
loop-f-smaller c = search falls

pub loop-f-preserved : goal.loop-f-preserved
loop-f-preserved c = search again

pub returns : goal.returns
returns c = search done
