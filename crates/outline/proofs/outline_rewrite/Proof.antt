-- `outline_rewrite` meets its contract.
use borrow.Author.Rules.{rules}
use Rattle.rewriting.proofs.Answers.{in_longest}
use Rattle.outline.proofs.Numbers.{as_rewritten_lem}
use Rattle.outline.proofs.outline_rewrite.Statement.{statement}
use Rattle.outline.proofs.outline_rewrite.Tie as tie

pub outline_rewrite_spec : {M : Type 1} → statement M
outline_rewrite_spec =
    tie.close
    (tie.spec
    (λ c κs. search rules)
    (λ c κs. search (rules, in_longest))
    (λ c. search rules)
    (λ c. search rules)
    (λ c. search (rules, as_rewritten_lem)))
