-- `cut_put` meets its contract.
use borrow.Author.Rules.{rules}
use Rattle.applying.proofs.Applying.{next_low, prev_low, second_low, free_point, cut_put}
use Rattle.applying.proofs.cut_put.Statement.{statement}
use Rattle.applying.proofs.cut_put.Tie as tie

pub cut_put_spec : {M : Type 1} → statement M
cut_put_spec =
    tie.close
    (tie.spec
    (λ c κs. search rules)
    (λ c κs. search rules)
    (λ c κs. search (next_low, prev_low, second_low, free_point, cut_put, rules))
    (λ c κs. search rules)
    (λ c κs. search (next_low, prev_low, second_low, free_point, cut_put, rules))
    (λ c κs. search rules)
    (λ c κs. search (next_low, prev_low, second_low, free_point, cut_put, rules))
    (λ c κs. search rules)
    (λ c. search rules)
    (λ c. search (next_low, prev_low, second_low, free_point, cut_put)))
