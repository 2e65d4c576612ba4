-- `crossing::segments_intersect` meets its contract.
use Rattle.crossing.proofs.Differences.{parallel_of, apart_of, intersect_of}
use Rattle.crossing.proofs.segments_intersect.Goals as goal

pub returns-then-cp : goal.returns-then-cp
returns-then-cp c = search parallel_of

pub returns-then-strictly_within : goal.returns-then-strictly_within
returns-then-strictly_within c = search intersect_of

pub returns-else-strictly_within : goal.returns-else-strictly_within
returns-else-strictly_within c = search apart_of
