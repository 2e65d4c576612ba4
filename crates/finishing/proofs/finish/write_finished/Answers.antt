-- `write_finished` meets its contract.
use Rattle.finishing.proofs.InOneCall.{all_paths, small_tray}
use Rattle.finishing.proofs.finish.write_finished.Goals as goal

pub returns-in-Ok : goal.returns-in-Ok
returns-in-Ok c = search all_paths

pub returns-in-Err : goal.returns-in-Err
returns-in-Err c = search small_tray
