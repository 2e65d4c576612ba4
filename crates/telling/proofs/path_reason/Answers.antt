-- `path_reason` meets its contract.
use Rattle.telling.proofs.Tells.{end_short, end_small, end_written}
use Rattle.telling.proofs.path_reason.Goals as goal

pub returns-in-Ok : goal.returns-in-Ok
returns-in-Ok c = search end_written

pub returns-in-Short : goal.returns-in-Short
returns-in-Short c = search end_short

pub returns-in-Small : goal.returns-in-Small
returns-in-Small c = search end_small
