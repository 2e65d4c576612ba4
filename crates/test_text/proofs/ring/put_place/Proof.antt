-- `test_text::ring::put_place` meets its contract.
use borrow.Author.Rules.{rules}
use Rattle.test_text.proofs.Ringing.{place_poured}
use Rattle.test_text.proofs.ring.put_place.Statement.{statement}
use Rattle.test_text.proofs.ring.put_place.Tie as tie

pub put_place_spec : {M : Type 1} → statement M
put_place_spec =
    tie.close
    (tie.spec
    (λ c κs. search rules)
    (λ c κs. search rules)
    (λ c κs. search rules)
    (λ c κs. search rules)
    (λ c κs. search rules)
    (λ c κs. search rules)
    (λ c κs. search rules)
    (λ c κs. search rules)
    (λ c. search rules)
    (λ c. search place_poured))
