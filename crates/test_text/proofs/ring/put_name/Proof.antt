-- `test_text::ring::put_name` meets its contract.
use borrow.Author.Rules.{rules}
use Rattle.test_text.proofs.Ringing.{named_poured, unnamed_poured}
use Rattle.test_text.proofs.ring.put_name.Statement.{statement}
use Rattle.test_text.proofs.ring.put_name.Tie as tie

pub put_name_spec : {M : Type 1} → statement M
put_name_spec =
    tie.close
    (tie.spec
    (λ c κs. search rules)
    (λ c κs. search rules)
    (λ c. search rules)
    (λ c. search named_poured)
    (λ c. search unnamed_poured))
