-- `reading::points::run_points` meets its contract: each turn of the loop is one of reading.
use borrow.Author.Rules.{rules}
use Rattle.reading.proofs.Running.{none_placed, header_there, value_there, place_free, one_more}
use Rattle.reading.proofs.points.run_points.Goals as goal

pub loop-k-init : goal.loop-k-init
loop-k-init c = search (none_placed, rules)

pub from-requires : goal.from-requires
from-requires c = search (header_there, rules)

pub put_value-requires : goal.put_value-requires
put_value-requires c = search (value_there, place_free, rules)

pub loop-k-preserved : goal.loop-k-preserved
loop-k-preserved c = search (one_more, rules)
