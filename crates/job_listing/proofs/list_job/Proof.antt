-- `list_job` meets its contract: by the work space's length, then as `list_at`.
use borrow.Author.Rules.{rules}
use Rattle.job_listing.proofs.Listing.{too_short, long_enough}
use Rattle.job_listing.proofs.list_job.Statement.{statement}
use Rattle.job_listing.proofs.list_job.Tie as tie

pub list_job_spec : {M : Type 1} → statement M
list_job_spec =
    tie.close
    (tie.spec
    (λ c κs. search rules)
    (λ c. search rules)
    (λ c. search rules)
    (λ c. search rules)
    (λ c. search (rules, too_short))
    (λ c κs. search rules)
    (λ c. search rules)
    (λ c. search rules)
    (λ c. search rules)
    (λ c. search (rules, long_enough)))
