-- `triangle_test` meets its contract.
use borrow.Author.Rules.{rules}
use Rattle.turns.proofs.Decisions.{is_triangle, not_triangle}
use Rattle.turns.proofs.decide.triangle_test.Statement.{statement}
use Rattle.turns.proofs.decide.triangle_test.Tie as tie

pub triangle_test_spec : {M : Type 1} → statement M
triangle_test_spec =
    tie.close
    (tie.spec
    (λ c κs. search rules)
    (λ c κs. search rules)
    (λ c. search (is_triangle))
    (λ c. search (not_triangle)))
