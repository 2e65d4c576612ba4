-- overlaps meets its contract.
use borrow.Author.Rules.{rules}
use Rattle.windows.proofs.Comparing.{overlap_is}
use Rattle.windows.proofs.overlaps.Statement.{statement}
use Rattle.windows.proofs.overlaps.Tie as tie

pub overlaps_spec : {M : Type 1} → statement M
overlaps_spec = tie.close (tie.spec (λ c κs. search rules) (λ c κs. search rules) (λ c. search overlap_is))
