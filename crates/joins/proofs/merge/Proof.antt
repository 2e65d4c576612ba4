-- `joins::merge` meets its contract.
use borrow.Author.Rules.{rules}
use Rattle.joins.proofs.Turns.{pair_four, pair_long, pair_low_one, pair_low_two, merge_done}
use Rattle.joins.proofs.merge.Statement.{statement}
use Rattle.joins.proofs.merge.Tie as tie

pub merge_spec : {M : Type 1} → statement M
merge_spec =
    tie.close
    (tie.spec
    (λ c κs. search pair_four)
    (λ c κs. search (rules, pair_long, pair_low_two))
    (λ c κs. search (rules, pair_long, pair_low_one, pair_low_two))
    (λ c κs. search (rules, pair_long, pair_low_two))
    (λ c κs. search (rules, pair_long, pair_low_one, pair_low_two))
    (λ c. search rules)
    (λ c. search merge_done))
