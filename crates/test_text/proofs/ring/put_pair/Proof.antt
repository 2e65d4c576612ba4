-- `test_text::ring::put_pair` meets its contract.
use borrow.Author.Rules.{rules}
use Rattle.test_text.proofs.Ringing.{pair_poured}
use Rattle.test_text.proofs.ring.put_pair.Statement.{statement}
use Rattle.test_text.proofs.ring.put_pair.Tie as tie

pub put_pair_spec : {M : Type 1} → statement M
put_pair_spec =
    tie.close
    (tie.spec
    (λ c κs. search rules)
    (λ c κs. search rules)
    (λ c κs. search rules)
    (λ c. search rules)
    (λ c. search pair_poured))
