-- `containing::begins_outside` meets its contract.
use borrow.Author.Rules.{rules}
use Rattle.containing.proofs.Apart.{begins_few, begins_first, begins_second, begins_is}
use Rattle.containing.proofs.begins_outside.Statement.{statement}
use Rattle.containing.proofs.begins_outside.Tie as tie

pub begins_outside_spec : {M : Type 1} → statement M
begins_outside_spec =
    tie.close
    (tie.spec
    (λ c. search (rules, begins_few))
    (λ c κs. search (rules, begins_first))
    (λ c. search (rules, begins_second))
    (λ c κs. search (rules, begins_second))
    (λ c κs. search rules)
    (λ c κs. search rules)
    (λ c. search (rules, begins_is)))
