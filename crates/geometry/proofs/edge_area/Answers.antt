-- `geometry::edge_area` meets its contract: a product of 2 ^ 42 fits.
use Rattle.exact.proofs.Words.{held_64, fits_64}
use Rattle.geometry.proofs.Coordinates.{wide_edge}
use Rattle.geometry.proofs.edge_area.Goals as goal

pub overflow_mul-result : goal.overflow_mul-result
overflow_mul-result c = fits_64 (wide_edge c.requires.fact_1 c.requires.fact_2) tt

pub returns : goal.returns
returns c = (held_64 (wide_edge c.requires.fact_1 c.requires.fact_2) tt).is
