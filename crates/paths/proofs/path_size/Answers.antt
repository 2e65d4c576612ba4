-- `paths::path_size` meets its contract.
use Rattle.paths.proofs.Sizes.{size_or_none}
use Rattle.paths.proofs.path_size.Goals as goal

pub returns : goal.returns
returns c = search size_or_none
