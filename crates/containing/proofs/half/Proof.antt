-- `containing::half` meets its contract.
use native.Mathlib.Omega.{arith}
use Rattle.containing.proofs.Boxes.{sum_fits, half_fits, half_is}
use Rattle.containing.proofs.half.Statement.{statement}
use Rattle.containing.proofs.half.Tie as tie

pub half_spec : {M : Type 1} → statement M
half_spec =
    tie.close
    (tie.spec
    (λ c. sum_fits c.requires.0 c.requires.1)
    (λ c. (omega arith, half_fits c.requires.0 c.requires.1))
    (λ c. half_is c.requires.0 c.requires.1))
