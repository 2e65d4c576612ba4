-- `paths::adds` meets its contract.
use borrow.Author.Rules.{rules}
use Rattle.paths.proofs.Rounds.{adds_none, adds_one}
use Rattle.paths.proofs.round.adds.Statement.{statement}
use Rattle.paths.proofs.round.adds.Tie as tie

pub adds_spec : {M : Type 1} → statement M
adds_spec =
    tie.close
    (tie.spec
    (λ c κs. search rules)
    (λ c κs. search rules)
    (λ c κs. search rules)
    (λ c. search adds_none)
    (λ c. search adds_one))
