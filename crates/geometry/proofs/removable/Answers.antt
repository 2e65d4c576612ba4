-- `geometry::removable` meets its contract.
use Rattle.geometry.proofs.Coordinates.{removable_of}
use Rattle.geometry.proofs.removable.Goals as goal

pub returns : goal.returns
returns c = removable_of c.args.preserve c.requires.fact_1 c.requires.fact_2 c.requires.fact_3 c.is_collinear.ensures c.same_point.ensures c.same_point-2.ensures
    c.dot_product_three_points-spike.ensures
