-- `paths::build_paths64` meets its contract.
use Rattle.paths.proofs.Bound.{tray_small, all_written}
use Rattle.paths.proofs.build_paths64.Goals as goal

pub returns-then-too_small : goal.returns-then-too_small
returns-then-too_small c = search tray_small

pub returns : goal.returns
returns c = search all_written
