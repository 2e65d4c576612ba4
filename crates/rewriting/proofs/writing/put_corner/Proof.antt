-- `rewriting::writing::put_corner` meets its contract.
use borrow.Author.Rules.{rules}
use Rattle.rewriting.proofs.Laying.{corner_poured}
use Rattle.rewriting.proofs.writing.put_corner.Statement.{statement}
use Rattle.rewriting.proofs.writing.put_corner.Tie as tie

pub put_corner_spec : {M : Type 1} → statement M
put_corner_spec =
    tie.close
    (tie.spec
    (λ c κs. search rules)
    (λ c κs. search rules)
    (λ c κs. search rules)
    (λ c κs. search rules)
    (λ c κs. search rules)
    (λ c. search rules)
    (λ c. search rules)
    (λ c κs. search rules)
    (λ c. search rules)
    (λ c. search (rules, corner_poured)))
