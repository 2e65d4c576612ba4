-- `segments::level::along` meets its contract.
use borrow.Author.Rules.{rules}
use Rattle.joins.proofs.Finding.{point_low}
use Rattle.segments.proofs.Running.{along_yes, along_no}
use Rattle.segments.proofs.level.along.Statement.{statement}
use Rattle.segments.proofs.level.along.Tie as tie

pub along_spec : {M : Type 1} → statement M
along_spec =
    tie.close
    (tie.spec
    (λ c κs. search (rules, point_low))
    (λ c. search along_yes)
    (λ c κs. search (rules, point_low))
    (λ c. search along_no))
