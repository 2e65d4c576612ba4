-- `geometry::product` meets its contract: a product of 2 ^ 42 fits.
use Rattle.exact.proofs.Words.{held_64, fits_64}
use Rattle.geometry.proofs.Coordinates.{wide_mul}
use Rattle.geometry.proofs.product.Goals as goal

pub overflow_mul-result : goal.overflow_mul-result
overflow_mul-result c = fits_64 (wide_mul c.requires.fact_1 c.requires.fact_2 c.requires.fact_3 c.requires.fact_4) tt

pub returns : goal.returns
returns c = (held_64 (wide_mul c.requires.fact_1 c.requires.fact_2 c.requires.fact_3 c.requires.fact_4) tt).is
