-- `opening::clear::clear_live` meets its contract: zeros up to the boxes, and over the names.
use Rattle.opening.proofs.Clearing.{live_cleared}
use Rattle.opening.proofs.clear.clear_live.Goals as goal

pub returns : goal.returns
returns c = search live_cleared
