-- `paths::link` meets its contract.
use borrow.Author.Rules.{rules}
use Rattle.paths.proofs.Walks.{link_back, link_on}
use Rattle.paths.proofs.round.link.Statement.{statement}
use Rattle.paths.proofs.round.link.Tie as tie

pub link_spec : {M : Type 1} → statement M
link_spec =
    tie.close
    (tie.spec
    (λ c κs. search rules)
    (λ c. search (link_back, rules))
    (λ c κs. search rules)
    (λ c. search (link_on, rules)))
