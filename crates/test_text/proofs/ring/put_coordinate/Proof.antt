-- `test_text::ring::put_coordinate` meets its contract.
use borrow.Author.Rules.{rules}
use Rattle.test_text.proofs.Ringing.{minus_coordinate, plus_coordinate}
use Rattle.test_text.proofs.ring.put_coordinate.Statement.{statement}
use Rattle.test_text.proofs.ring.put_coordinate.Tie as tie

pub put_coordinate_spec : {M : Type 1} → statement M
put_coordinate_spec =
    tie.close
    (tie.spec
    (λ c κs. search rules)
    (λ c. search rules)
    (λ c κs. search rules)
    (λ c. search rules)
    (λ c. search minus_coordinate)
    (λ c κs. search rules)
    (λ c. search rules)
    (λ c. search plus_coordinate))
