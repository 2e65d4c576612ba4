-- is_valid_closed_path meets its contract.
use borrow.Author.Rules.{rules}
use Rattle.walks.proofs.Shapes.{none_is, the_ring, the_low, no_other, no_third, judged}
use Rattle.walks.proofs.is_valid_closed_path.Statement.{statement}
use Rattle.walks.proofs.is_valid_closed_path.Tie as tie

pub is_valid_closed_path_spec : {M : Type 1} → statement M
is_valid_closed_path_spec =
    tie.close
    (tie.spec
    (λ c. search none_is)
    (λ c κs. search (rules, the_low))
    (λ c. search no_other)
    (λ c κs. search (rules, the_low))
    (λ c. search no_third)
    (λ c κs. search the_ring)
    (λ c. search judged))
