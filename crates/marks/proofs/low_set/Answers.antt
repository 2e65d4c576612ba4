-- `low_set` meets its contract: the mask has the n low bits.
use Rattle.marks.proofs.Marking.{low_set_is}
use Rattle.marks.proofs.low_set.Goals as goal

pub returns : goal.returns
returns c = low_set_is c.args.w c.args.n c.requires
