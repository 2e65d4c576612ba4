-- `preserve` meets its contract.
use borrow.Author.Rules.{rules}
use Rattle.turns.proofs.Decisions.{preserve_is}
use Rattle.turns.proofs.decide.preserve.Statement.{statement}
use Rattle.turns.proofs.decide.preserve.Tie as tie

pub preserve_spec : {M : Type 1} → statement M
preserve_spec =
    tie.close
    (tie.spec
    (λ c κs. search rules)
    (λ c. search (preserve_is)))
