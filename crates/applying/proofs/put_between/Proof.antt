-- `put_between` meets its contract.
use borrow.Author.Rules.{rules}
use Rattle.applying.proofs.Applying.{put_in}
use Rattle.applying.proofs.put_between.Statement.{statement}
use Rattle.applying.proofs.put_between.Tie as tie

pub put_between_spec : {M : Type 1} → statement M
put_between_spec =
    tie.close
    (tie.spec
    (λ c κs. search rules)
    (λ c κs. search rules)
    (λ c. search rules)
    (λ c. search (put_in)))
