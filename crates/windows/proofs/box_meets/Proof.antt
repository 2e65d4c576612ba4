-- box_meets meets its contract.
use borrow.Author.Rules.{rules}
use Rattle.windows.proofs.Comparing.{meets_is}
use Rattle.windows.proofs.box_meets.Statement.{statement}
use Rattle.windows.proofs.box_meets.Tie as tie

pub box_meets_spec : {M : Type 1} → statement M
box_meets_spec = tie.close (tie.spec (λ c κs. search rules) (λ c κs. search rules) (λ c. search meets_is))
