-- `geometry::dot_product_three_points` meets its contract.
use Rattle.exact.proofs.Words.{held_64, held_add, fits_64}
use Rattle.geometry.specs.Plane.{dot_product_three_points}
use Rattle.geometry.proofs.Coordinates.{product_of}
use Rattle.geometry.proofs.dot_product_three_points.Goals as goal

pub overflow_add-result : goal.overflow_add-result
unfolding dot_product_three_points
overflow_add-result c = let p = product_of c.requires.fact_2.x c.requires.fact_1.x c.requires.fact_3.x c.requires.fact_2.x c.product.ensures in
    let q = product_of c.requires.fact_2.y c.requires.fact_1.y c.requires.fact_3.y c.requires.fact_2.y c.product-2.ensures in
    fits_64 (held_add (held_64 p tt) (held_64 q tt)) tt

pub returns : goal.returns
unfolding dot_product_three_points
returns c = let p = product_of c.requires.fact_2.x c.requires.fact_1.x c.requires.fact_3.x c.requires.fact_2.x c.product.ensures in
    let q = product_of c.requires.fact_2.y c.requires.fact_1.y c.requires.fact_3.y c.requires.fact_2.y c.product-2.ensures in
    (held_64 (held_add (held_64 p tt) (held_64 q tt)) tt).is
