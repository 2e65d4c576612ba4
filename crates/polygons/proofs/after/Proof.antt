-- `polygons::after` meets its contract.
use borrow.Author.Rules.{rules}
use Rattle.polygons.proofs.Turns.{after_touches, after_passes, after_crosses}
use Rattle.polygons.proofs.after.Statement.{statement}
use Rattle.polygons.proofs.after.Tie as tie

pub after_spec : {M : Type 1} → statement M
after_spec =
    tie.close
    (tie.spec
    (λ c. search rules)
    (λ c. search rules)
    (λ c. search rules)
    (λ c. search rules)
    (λ c. search (rules, after_touches))
    (λ c. search rules)
    (λ c. search (rules, after_passes))
    (λ c. search (rules, after_crosses)))
