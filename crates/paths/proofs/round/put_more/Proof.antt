-- `paths::put_more` meets its contract.
use borrow.Author.Rules.{rules}
use Rattle.paths.proofs.Writing.{more_none, more_some}
use Rattle.paths.proofs.round.put_more.Statement.{statement}
use Rattle.paths.proofs.round.put_more.Tie as tie

pub put_more_spec : {M : Type 1} → statement M
put_more_spec =
    tie.close
    (tie.spec
    (λ c κs. search rules)
    (λ c. search more_none)
    (λ c κs. search rules)
    (λ c. search rules)
    (λ c. search rules)
    (λ c. search more_some))
