-- `make_offcut` meets its contract.
use borrow.Author.Rules.{rules}
use Rattle.applying.proofs.Applying.{made_offcut}
use Rattle.applying.proofs.make_offcut.Statement.{statement}
use Rattle.applying.proofs.make_offcut.Tie as tie

pub make_offcut_spec : {M : Type 1} → statement M
make_offcut_spec =
    tie.close
    (tie.spec
    (λ c κs. search rules)
    (λ c κs. search rules)
    (λ c κs. search rules)
    (λ c κs. search rules)
    (λ c κs. search rules)
    (λ c κs. search rules)
    (λ c. search rules)
    (λ c. search (made_offcut)))
