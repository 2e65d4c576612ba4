-- `crossing::get_segment_intersect_pt` meets its contract.
use Rattle.crossing.proofs.Fractions.{crossing_of}
use Rattle.crossing.proofs.get_segment_intersect_pt.Goals as goal

pub returns : goal.returns
returns c = search (crossing_of)
