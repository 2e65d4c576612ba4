-- `list_at` meets its contract: by the rate that is asked.
use borrow.Author.Rules.{rules}
use Rattle.job_listing.proofs.Listing.{cents_again, by_none, by_cents, by_bad}
use Rattle.job_listing.proofs.list_at.Statement.{statement}
use Rattle.job_listing.proofs.list_at.Tie as tie

pub list_at_spec : {M : Type 1} → statement M
list_at_spec =
    tie.close
    (tie.spec
    (λ c κs. search rules)
    (λ c. search rules)
    (λ c κs. search rules)
    (λ c. search rules)
    (λ c κs. search (rules, cents_again))
    (λ c. search rules)
    (λ c κs. search rules)
    (λ c. search rules)
    (λ c. search rules)
    (λ c. search rules)
    (λ c. search (rules, by_none))
    (λ c. search rules)
    (λ c. search rules)
    (λ c. search rules)
    (λ c. search (rules, by_cents))
    (λ c. search rules)
    (λ c. search (rules, by_bad)))
