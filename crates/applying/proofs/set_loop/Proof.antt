-- `set_loop` meets its contract.
use borrow.Author.Rules.{rules}
use Rattle.applying.proofs.Applying.{looped}
use Rattle.applying.proofs.set_loop.Statement.{statement}
use Rattle.applying.proofs.set_loop.Tie as tie

pub set_loop_spec : {M : Type 1} → statement M
set_loop_spec =
    tie.close
    (tie.spec
    (λ c κs. search rules)
    (λ c κs. search rules)
    (λ c. search rules)
    (λ c. search (looped)))
