-- `containing::middle_inside` meets its contract.
use borrow.Author.Rules.{rules}
use Rattle.containing.proofs.Deciding.{box_asked, middle_asked}
use Rattle.containing.proofs.middle_inside.Goals as goal

pub mid_point-middle-requires : goal.mid_point-middle-requires
mid_point-middle-requires c = search (rules, box_asked)

pub point_in_polygon-r-requires : goal.point_in_polygon-r-requires
point_in_polygon-r-requires c = search (rules, middle_asked)
