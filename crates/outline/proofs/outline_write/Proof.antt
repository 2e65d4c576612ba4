-- `outline_write` meets its contract.
use borrow.Author.Rules.{rules}
use Rattle.outline.proofs.Numbers.{as_written_lem}
use Rattle.outline.proofs.outline_write.Statement.{statement}
use Rattle.outline.proofs.outline_write.Tie as tie

pub outline_write_spec : {M : Type 1} → statement M
outline_write_spec =
    tie.close
    (tie.spec
    (λ c κs. search rules)
    (λ c κs. search rules)
    (λ c. search rules)
    (λ c. search (rules, as_written_lem)))
