-- `crossing_of` meets its contract.
use borrow.Author.Rules.{rules}
use Rattle.crossing.proofs.Crossings.{meet_of}
use Rattle.turns.proofs.Decisions.{crossed_parallel, crossed_start, crossed_end, crossed_inside}
use Rattle.turns.proofs.decide.crossing_of.Goals as goal

pub returns-in-Parallel : goal.returns-in-Parallel
returns-in-Parallel c = search (crossed_parallel)

pub returns-in-Start : goal.returns-in-Start
returns-in-Start c = search (crossed_start)

pub returns-in-End : goal.returns-in-End
returns-in-End c = search (crossed_end)

pub point_inside-requires : goal.point_inside-requires
point_inside-requires c = search (meet_of, rules)

pub returns-in-Inside : goal.returns-in-Inside
returns-in-Inside c = search (crossed_inside)
