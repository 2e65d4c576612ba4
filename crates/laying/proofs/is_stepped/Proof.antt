-- `laying::is_stepped` meets its contract, test by test.
use borrow.Author.Rules.{rules}
use Rattle.laying.proofs.Calls.{stepped_cut, stepped_bare, stepped_open, stepped_else}
use Rattle.laying.proofs.is_stepped.Statement.{statement}
use Rattle.laying.proofs.is_stepped.Tie as tie

pub is_stepped_spec : {M : Type 1} → statement M
is_stepped_spec =
    tie.close
    (tie.spec
    (λ c κs. search rules)
    (λ c κs. search rules)
    (λ c κs. search rules)
    (λ c κs. search rules)
    (λ c κs. search rules)
    (λ c κs. search rules)
    (λ c. search stepped_cut)
    (λ c. search stepped_bare)
    (λ c. search stepped_open)
    (λ c. search stepped_else))
