-- `rewriting::writing::start_number` meets its contract.
use borrow.Author.Rules.{rules}
use Rattle.rewriting.proofs.Laying.{start_none, start_some}
use Rattle.rewriting.proofs.writing.start_number.Statement.{statement}
use Rattle.rewriting.proofs.writing.start_number.Tie as tie

pub start_number_spec : {M : Type 1} → statement M
start_number_spec =
    tie.close
    (tie.spec
    (λ c κs. search rules)
    (λ c. search (rules, start_none))
    (λ c κs. search rules)
    (λ c. search (rules, start_some)))
