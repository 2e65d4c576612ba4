-- `converting::pairs::apart` meets its contract.
use borrow.Author.Rules.{rules}
use Rattle.converting.specs.Make.{apart_of}
use Rattle.converting.proofs.Looping.{valid_left_i, valid_right_i, valid_left_j, valid_right_j}
use Rattle.converting.proofs.pairs.apart.Statement.{statement}
use Rattle.converting.proofs.pairs.apart.Tie as tie

pub apart_spec : {M : Type 1} → statement M
unfolding apart_of
apart_spec =
    tie.close
    (tie.spec
    (λ c κs. search (rules, valid_left_j, valid_right_i))
    (λ c κs. search (rules, valid_left_i, valid_right_j))
    (λ c κs. search rules)
    (λ c κs. search rules)
    (λ c. cc))
