-- `Marks::set` meets its contract: one bit of one word.
use Rattle.marks.proofs.Marking.{set_is}
use Rattle.marks.proofs.Marks.set.Goals as goal

pub returns : goal.returns
returns c = search set_is
