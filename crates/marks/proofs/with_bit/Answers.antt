-- `with_bit` meets its contract: the shift loses nothing.
use Rattle.marks.proofs.Marking.{with_bit_is}
use Rattle.marks.proofs.with_bit.Goals as goal

pub returns : goal.returns
returns c = with_bit_is c.args.w c.args.i c.requires
