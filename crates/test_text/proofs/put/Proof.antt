-- `test_text::put` meets its contract.
use borrow.Author.Rules.{rules}
use Rattle.test_text.proofs.Past.{put_past}
use Rattle.test_text.proofs.put.Statement.{statement}
use Rattle.test_text.proofs.put.Tie as tie

pub put_spec : {M : Type 1} → statement M
put_spec =
    tie.close
    (tie.spec
    (λ c. search rules)
    (λ c. search rules)
    (λ c. search rules)
    (λ c. search (rules, put_past)))
