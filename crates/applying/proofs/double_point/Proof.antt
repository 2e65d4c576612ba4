-- `double_point` meets its contract.
use borrow.Author.Rules.{rules}
use Rattle.applying.proofs.Applying.{here_low, prev_low, free_point, doubled}
use Rattle.applying.proofs.double_point.Statement.{statement}
use Rattle.applying.proofs.double_point.Tie as tie

pub double_point_spec : {M : Type 1} → statement M
double_point_spec =
    tie.close
    (tie.spec
    (λ c κs. search rules)
    (λ c κs. search rules)
    (λ c κs. search rules)
    (λ c κs. search rules)
    (λ c κs. search rules)
    (λ c κs. search (here_low, prev_low, free_point, doubled, rules))
    (λ c κs. search rules)
    (λ c. search rules)
    (λ c. search (here_low, prev_low, free_point, doubled)))
