-- `crossing::point_inside` meets its contract.
use Rattle.std.proofs.Common.{rules}
use Rattle.crossing.proofs.Crossings.{on_x, on_y, inside_of}
use Rattle.crossing.proofs.point_inside.Goals as goal

pub stepped-requires : goal.stepped-requires
stepped-requires c = search (on_x, rules)

pub stepped-requires-2 : goal.stepped-requires-2
stepped-requires-2 c = search (on_y, rules)

pub returns : goal.returns
returns c = search (inside_of)
