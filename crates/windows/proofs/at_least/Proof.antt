-- at_least meets its contract.
use borrow.Author.Rules.{rules}
use Rattle.windows.proofs.Comparing.{cast_sign, cast_size, least_yes, least_is}
use Rattle.windows.proofs.at_least.Statement.{statement}
use Rattle.windows.proofs.at_least.Tie as tie

pub at_least_spec : {M : Type 1} → statement M
at_least_spec = tie.close (tie.spec (λ c κs. search rules) (λ c. search least_yes) (λ c. (search cast_sign, search cast_size)) (λ c. search least_is))
