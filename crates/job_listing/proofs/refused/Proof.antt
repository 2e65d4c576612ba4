-- `refused` meets its contract.
use borrow.Author.Rules.{rules}
use Rattle.job_listing.proofs.Listing.{line_is}
use Rattle.job_listing.proofs.refused.Statement.{statement}
use Rattle.job_listing.proofs.refused.Tie as tie

pub refused_spec : {M : Type 1} → statement M
refused_spec =
    tie.close
    (tie.spec
    (λ c κs. search rules)
    (λ c κs. search rules)
    (λ c. search rules)
    (λ c. search line_is))
