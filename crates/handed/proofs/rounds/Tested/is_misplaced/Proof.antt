-- is_misplaced meets its contract.
use borrow.Author.Rules.{rules}
use Rattle.handed.proofs.Gathering.{placed_open, placed_else}
use Rattle.handed.proofs.rounds.Tested.is_misplaced.Statement.{statement}
use Rattle.handed.proofs.rounds.Tested.is_misplaced.Tie as tie

pub is_misplaced_spec : {M : Type 1} → statement M
is_misplaced_spec =
    tie.close
    (tie.spec
    (λ c κs. search rules)
    (λ c. search placed_open)
    (λ c κs. search rules)
    (λ c. search placed_else))
