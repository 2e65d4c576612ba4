-- `segments::level::halts` meets its contract.
use borrow.Author.Rules.{rules}
use Rattle.segments.proofs.Running.{along_low, halts_wall, halts_stop, halts_limit}
use Rattle.segments.proofs.level.halts.Goals as goal

pub get-x-requires : goal.get-x-requires
get-x-requires c = search (rules, along_low)

pub get-v-requires : goal.get-v-requires
get-v-requires c = search (rules, along_low)

pub returns-in-Wall : goal.returns-in-Wall
returns-in-Wall c = halts_wall _ _ _ _ _ _ _ _ c.along-q.ensures c.get-v.ensures.0 c.in-Wall.is

pub returns-in-Stop : goal.returns-in-Stop
returns-in-Stop c = halts_stop _ _ _ _ _ _ _ _ c.along-q.ensures c.get-v.ensures.0 c.in-Stop.is

pub returns-in-Limit : goal.returns-in-Limit
returns-in-Limit c = halts_limit _ _ _ _ _ _ _ _ c.along-q.ensures c.get-v.ensures.0 _ c.get-x.ensures.0 c.in-Limit.is
