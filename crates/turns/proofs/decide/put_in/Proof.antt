-- `put_in` meets its contract.
use borrow.Author.Rules.{rules}
use Rattle.turns.proofs.Decisions.{put_is}
use Rattle.turns.proofs.decide.put_in.Statement.{statement}
use Rattle.turns.proofs.decide.put_in.Tie as tie

pub put_in_spec : {M : Type 1} → statement M
put_in_spec =
    tie.close
    (tie.spec
    (λ c κs. search rules)
    (λ c κs. search rules)
    (λ c. search (put_is)))
