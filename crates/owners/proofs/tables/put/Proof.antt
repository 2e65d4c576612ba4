-- `owners::tables::put` meets its contract: a number past the table has no place.
use mathlib.Core.Path.{sym}
use lib.Seq.{set_out}
use borrow.Author.Rules.{rules}
use Rattle.owners.proofs.tables.put.Statement.{statement}
use Rattle.owners.proofs.tables.put.Tie as tie

pub put_spec : {M : Type 1} → statement M
put_spec =
    tie.close
    (tie.spec
    (λ c. search rules)
    (λ c. search rules)
    (λ c. search rules)
    (λ c. search rules)
    (λ c. search rules)
    (λ c. sym (set_out c.before.args.t.now c.before.args.r c.before.args.n (search rules))))
