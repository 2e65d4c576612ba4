-- `rewriting::answer` meets its contract: the tray is too short, or not.
use borrow.Author.Rules.{rules}
use Rattle.rewriting.proofs.Ends.{too_small, enough}
use Rattle.rewriting.proofs.answer.Statement.{statement}
use Rattle.rewriting.proofs.answer.Tie as tie

pub answer_spec : {M : Type 1} → statement M
answer_spec =
    tie.close
    (tie.spec
    (λ c. search (rules, too_small))
    (λ c. search (rules, enough)))
