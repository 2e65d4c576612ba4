-- `pooling::raise` meets its contract.
use borrow.Author.Rules.{rules}
use native.Mathlib.Omega.{arith}
use Rattle.pooling.proofs.Columns.{is_raised, not_raised}
use Rattle.pooling.proofs.raise.Statement.{statement}
use Rattle.pooling.proofs.raise.Tie as tie

pub raise_spec : {M : Type 1} → statement M
raise_spec =
    tie.close
    (tie.spec
    (λ c. search rules)
    (λ c. (search is_raised, omega arith))
    (λ c. (search not_raised, search rules)))
