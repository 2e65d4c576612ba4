-- `divisor` meets its contract.
use Rattle.exact.proofs.Words.{held_64, fits_64}
use Rattle.crosses.proofs.Crossed.{divisor_of}
use Rattle.crosses.proofs.divisor.Goals as goal

pub overflow_sub-result : goal.overflow_sub-result
overflow_sub-result c = fits_64 (divisor_of c.requires.fact_1 c.requires.fact_2 c.requires.fact_3 c.requires.fact_4 c.product.ensures c.product-2.ensures) tt

pub returns : goal.returns
returns c = (held_64 (divisor_of c.requires.fact_1 c.requires.fact_2 c.requires.fact_3 c.requires.fact_4 c.product.ensures c.product-2.ensures) tt).is
