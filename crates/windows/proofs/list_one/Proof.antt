-- list_one meets its contract.
use borrow.Author.Rules.{rules}
use Rattle.windows.proofs.Listing.{place_room, place_yes, place_no}
use Rattle.windows.proofs.list_one.Statement.{statement}
use Rattle.windows.proofs.list_one.Tie as tie

pub list_one_spec : {M : Type 1} → statement M
list_one_spec =
    tie.close
    (tie.spec
    (λ c κs. search rules)
    (λ c. search rules)
    (λ c. search (rules, place_room))
    (λ c. search (rules, place_room))
    (λ c. search rules)
    (λ c. search rules)
    (λ c. search place_yes)
    (λ c. search place_no))
