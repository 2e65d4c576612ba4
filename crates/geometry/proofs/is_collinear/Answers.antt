-- `geometry::is_collinear` meets its contract.
use Rattle.exact.proofs.Words.{held_eq}
use Rattle.geometry.specs.Plane.{is_collinear}
use Rattle.geometry.proofs.Coordinates.{product_of}
use Rattle.geometry.proofs.is_collinear.Goals as goal

pub returns : goal.returns
unfolding is_collinear
returns c = held_eq (product_of c.requires.fact_2.x c.requires.fact_1.x c.requires.fact_3.y c.requires.fact_2.y c.product.ensures)
    (product_of c.requires.fact_2.y c.requires.fact_1.y c.requires.fact_3.x c.requires.fact_2.x c.product-2.ensures) tt tt
