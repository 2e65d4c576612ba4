-- is_marked meets its contract: past the marks there is none.
use borrow.Author.Rules.{rules}
use mathlib.Core.Path.{refl}
use Rattle.audit.proofs.Testing.{unmarked}
use Rattle.audit.proofs.walks.is_marked.Statement.{statement}
use Rattle.audit.proofs.walks.is_marked.Tie as tie

pub is_marked_spec : {M : Type 1} → statement M
is_marked_spec =
    tie.close
    (tie.spec
    (λ c. search rules)
    (λ c. refl)
    (λ c. search (rules, unmarked)))
