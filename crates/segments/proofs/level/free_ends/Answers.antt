-- `segments::level::free_ends` meets its contract.
use Rattle.segments.specs.Update.{free_ends}
use Rattle.segments.proofs.Running.{stop_on}
use Rattle.segments.proofs.level.free_ends.Goals as goal

pub run-ahead-requires : goal.run-ahead-requires
unfolding free_ends
run-ahead-requires c = search stop_on

pub returns : goal.returns
unfolding free_ends
returns c = cc
