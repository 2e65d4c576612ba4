-- names_tested meets its contract.
use borrow.Author.Rules.{rules}
use Rattle.handed.proofs.Handing.{says_twice, says_apart}
use Rattle.handed.proofs.names.names_tested.Statement.{statement}
use Rattle.handed.proofs.names.names_tested.Tie as tie

pub names_tested_spec : {M : Type 1} → statement M
names_tested_spec = tie.close (tie.spec (λ c κs. search rules) (λ c. search says_twice) (λ c. search says_apart))
