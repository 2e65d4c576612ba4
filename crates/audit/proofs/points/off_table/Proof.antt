-- off_table meets its contract.
use borrow.Author.Rules.{rules}
use Rattle.audit.proofs.Testing.{says_off_table}
use Rattle.audit.proofs.points.off_table.Statement.{statement}
use Rattle.audit.proofs.points.off_table.Tie as tie

pub off_table_spec : {M : Type 1} → statement M
off_table_spec =
    tie.close
    (tie.spec
    (λ c κs. search rules)
    (λ c κs. search rules)
    (λ c. search says_off_table))
