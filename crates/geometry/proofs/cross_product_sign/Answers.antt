-- `geometry::cross_product_sign` meets its contract.
use Rattle.geometry.proofs.Signs.{cross_of}
use Rattle.geometry.proofs.cross_product_sign.Goals as goal

pub returns : goal.returns
returns c = cross_of c.requires.fact_1 c.requires.fact_2 c.requires.fact_3 c.product.ensures c.product-2.ensures c.sign_of.ensures
