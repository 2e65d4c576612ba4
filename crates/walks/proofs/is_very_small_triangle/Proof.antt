-- is_very_small_triangle meets its contract.
use borrow.Author.Rules.{rules}
use Rattle.walks.proofs.Shapes.{op_low, next_low, three, not_small, as_small}
use Rattle.walks.proofs.is_very_small_triangle.Statement.{statement}
use Rattle.walks.proofs.is_very_small_triangle.Tie as tie

pub is_very_small_triangle_spec : {M : Type 1} → statement M
is_very_small_triangle_spec =
    tie.close
    (tie.spec
    (λ c κs. search (rules, op_low))
    (λ c κs. search (rules, op_low))
    (λ c κs. search (rules, next_low))
    (λ c. search not_small)
    (λ c κs. search three)
    (λ c. search as_small))
