-- `opening::open::join_all` meets its contract: fewer than two segments make no join, and the others' joins have room.
use Rattle.opening.proofs.Staging.{few_segments, laid_segments}
use Rattle.opening.proofs.open.join_all.Goals as goal

pub returns-then-m-lt2 : goal.returns-then-m-lt2
returns-then-m-lt2 c = search few_segments

pub returns : goal.returns
returns c = search laid_segments
