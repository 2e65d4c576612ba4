-- `write_tested` meets its contract.
use Rattle.finishing.proofs.Calls.{write_early, write_done}
use Rattle.finishing.proofs.write_tested.Goals as goal

pub returns-then-any_live : goal.returns-then-any_live
returns-then-any_live c = search write_early

pub returns : goal.returns
returns c = search write_done
