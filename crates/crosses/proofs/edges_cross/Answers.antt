-- `edges_cross` meets its contract.
use Rattle.crosses.proofs.Crossed.{parallel_of, apart_of, crossed_of}
use Rattle.crosses.proofs.edges_cross.Goals as goal

pub returns-then-cp-eq0 : goal.returns-then-cp-eq0
returns-then-cp-eq0 c = search parallel_of

pub returns-else-is_between : goal.returns-else-is_between
returns-else-is_between c = search apart_of

pub returns-then-is_between : goal.returns-then-is_between
returns-then-is_between c = search crossed_of
