-- `canon::main` meets its contract: an answer's bytes are in the tray.
use Rattle.std.proofs.Common.{rules}
use Rattle.rewriting.proofs.Answers.{in_tray}
use Rattle.canon.proofs.main.Goals as goal

pub say-requires : goal.say-requires
say-requires c = search (rules, in_tray)
