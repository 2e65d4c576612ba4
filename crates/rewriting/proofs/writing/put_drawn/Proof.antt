-- `rewriting::writing::put_drawn` meets its contract.
use borrow.Author.Rules.{rules}
use Rattle.rewriting.proofs.Laying.{drawn_poured}
use Rattle.rewriting.proofs.writing.put_drawn.Statement.{statement}
use Rattle.rewriting.proofs.writing.put_drawn.Tie as tie

pub put_drawn_spec : {M : Type 1} → statement M
put_drawn_spec =
    tie.close
    (tie.spec
    (λ c κs. search rules)
    (λ c κs. search rules)
    (λ c κs. search rules)
    (λ c κs. search rules)
    (λ c. search rules)
    (λ c. search (rules, drawn_poured)))
