-- `put_numbered` meets its contract.
use borrow.Author.Rules.{rules}
use Rattle.text.proofs.Pouring.{pour_more}
use Rattle.job_reasons.proofs.put_numbered.Statement.{statement}
use Rattle.job_reasons.proofs.put_numbered.Tie as tie

pub put_numbered_spec : {M : Type 1} → statement M
put_numbered_spec =
    tie.close
    (tie.spec
    (λ c κs. search rules)
    (λ c κs. search rules)
    (λ c. search rules)
    (λ c. search pour_more))
