-- The rows of document 01's table by which a join is refused.
use Rattle.job.specs.declared.refusal.Refusal.{Refusal}
use Rattle.job.specs.declared.refusal.Refusal.TheVariants as refusal
use Rattle.joins.specs.declared.JoinError.{JoinError}
use Rattle.joins.specs.declared.JoinError.TheVariants.{Knot, Full}

abbrev pub row_of : JoinError → Refusal
row_of Knot = refusal.Knot
row_of Full = refusal.Full
