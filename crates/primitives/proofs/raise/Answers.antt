-- `primitives::raise` meets its contract.
use Rattle.primitives.proofs.Coordinates.{raise_word}
use Rattle.primitives.proofs.raise.Goals as goal

pub returns : goal.returns
returns c = raise_word c.args.x c.requires
