-- `converting::pairs::left_of` meets its contract.
use borrow.Author.Rules.{rules}
use Rattle.converting.proofs.pairs.left_of.Statement.{statement}
use Rattle.converting.proofs.pairs.left_of.Tie as tie

pub left_of_spec : {M : Type 1} → statement M
left_of_spec =
    tie.close
    (tie.spec
    (λ c κs. search rules)
    (λ c κs. search rules)
    (λ c κs. search rules)
    (λ c κs. search rules)
    (λ c. cc))
