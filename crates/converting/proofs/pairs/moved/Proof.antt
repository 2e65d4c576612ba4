-- `converting::pairs::moved` meets its contract.
use borrow.Author.Rules.{rules}
use Rattle.converting.specs.Make.{first_one, second_one}
use Rattle.converting.proofs.Looping.{moving_low, moving_long, moving_meets}
use Rattle.converting.proofs.pairs.moved.Statement.{statement}
use Rattle.converting.proofs.pairs.moved.Tie as tie

pub moved_spec : {M : Type 1} → statement M
unfolding first_one second_one
moved_spec =
    tie.close
    (tie.spec
    (λ c κs. search rules)
    (λ c κs. search rules)
    (λ c κs. search rules)
    (λ c κs. (search moving_long, search moving_low))
    (λ c κs. search moving_meets)
    (λ c. (cc, cc)))
