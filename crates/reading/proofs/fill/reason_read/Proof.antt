-- `reading::fill::reason_read` meets its contract.
use borrow.Author.Rules.{rules}
use Rattle.reading.proofs.Placing.{no_first, a_first}
use Rattle.reading.proofs.fill.reason_read.Statement.{statement}
use Rattle.reading.proofs.fill.reason_read.Tie as tie

pub reason_read_spec : {M : Type 1} → statement M
reason_read_spec = tie.close (tie.spec (λ c. search rules) (λ c. search no_first) (λ c. search a_first))
