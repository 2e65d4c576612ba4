-- `polygons::point_in_polygon` meets its contract.
use borrow.Author.Rules.{rules}
use Rattle.polygons.proofs.Going.{polygon_few, polygon_off, polygon_round, polygon_level}
use Rattle.polygons.proofs.point_in_polygon.Goals as goal

pub returns-then-n-lt3 : goal.returns-then-n-lt3
returns-then-n-lt3 c = search (rules, polygon_few)

pub returns-then-f-n : goal.returns-then-f-n
returns-then-f-n c = search (rules, polygon_level)

pub round_from-requires : goal.round_from-requires
round_from-requires c = search (rules, polygon_off)

pub returns : goal.returns
returns c = search (rules, polygon_round)
