-- `opening::clear::clear_block` meets its contract.
use Rattle.opening.proofs.Blanking.{block_zeros}
use Rattle.opening.proofs.clear.clear_block.Goals as goal

pub returns : goal.returns
returns c = search block_zeros
