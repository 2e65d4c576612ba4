-- `segments::level::walled_ends` meets its contract.
use borrow.Author.Rules.{rules}
use Rattle.segments.specs.Update.{walled_ends}
use Rattle.segments.proofs.Running.{first_point, wall_on, wall_back}
use Rattle.segments.proofs.level.walled_ends.Goals as goal

pub get-z-requires : goal.get-z-requires
unfolding walled_ends
get-z-requires c = search (rules, first_point)

pub run-back-requires : goal.run-back-requires
unfolding walled_ends
run-back-requires c = search wall_back

pub run-ahead-requires : goal.run-ahead-requires
unfolding walled_ends
run-ahead-requires c = search wall_on

pub returns : goal.returns
unfolding walled_ends
returns c = cc
