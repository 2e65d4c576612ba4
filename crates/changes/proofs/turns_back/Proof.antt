-- turns_back meets its contract.
use borrow.Author.Rules.{rules}
use Rattle.changes.proofs.Changing.{turns_back_is}
use Rattle.changes.proofs.turns_back.Statement.{statement}
use Rattle.changes.proofs.turns_back.Tie as tie

pub turns_back_spec : {M : Type 1} → statement M
turns_back_spec =
    tie.close
    (tie.spec
    (λ c κs. search rules)
    (λ c κs. search rules)
    (λ c κs. search rules)
    (λ c κs. search rules)
    (λ c. search turns_back_is))
