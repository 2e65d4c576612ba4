-- `is_full` meets its contract: a word is below 2 ^ BITS.
use Rattle.std.proofs.Common.{rules}
use Rattle.marks.proofs.Marking.{full_is}
use Rattle.marks.proofs.is_full.Goals as goal

pub returns : goal.returns
returns c = full_is c.args.w (search rules)
