-- at_most meets its contract.
use borrow.Author.Rules.{rules}
use Rattle.windows.proofs.Comparing.{cast_sign, cast_size, most_no, most_is}
use Rattle.windows.proofs.at_most.Statement.{statement}
use Rattle.windows.proofs.at_most.Tie as tie

pub at_most_spec : {M : Type 1} → statement M
at_most_spec = tie.close (tie.spec (λ c κs. search rules) (λ c. search most_no) (λ c. (search cast_sign, search cast_size)) (λ c. search most_is))
