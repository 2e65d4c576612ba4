-- `rewriting::writing::new_number` meets its contract.
use borrow.Author.Rules.{rules}
use Rattle.rewriting.proofs.writing.new_number.Statement.{statement}
use Rattle.rewriting.proofs.writing.new_number.Tie as tie

pub new_number_spec : {M : Type 1} → statement M
new_number_spec =
    tie.close
    (tie.spec
    (λ c κs. search rules)
    (λ c κs. search rules)
    (λ c. cc))
