-- `list_paths` meets its contract: by the rate.
use borrow.Author.Rules.{rules}
use Rattle.job_listing.proofs.Listing.{given_low, none_told, cents_told, bad_told}
use Rattle.job_listing.proofs.list_paths.Statement.{statement}
use Rattle.job_listing.proofs.list_paths.Tie as tie

pub list_paths_spec : {M : Type 1} → statement M
list_paths_spec =
    tie.close
    (tie.spec
    (λ c. search rules)
    (λ c κs. search rules)
    (λ c. search rules)
    (λ c κs. (search rules, (search rules, search (rules, given_low))))
    (λ c. search rules)
    (λ c κs. search rules)
    (λ c. search rules)
    (λ c. search (rules, none_told))
    (λ c. search rules)
    (λ c. search (rules, cents_told))
    (λ c. search rules)
    (λ c. search (rules, bad_told)))
