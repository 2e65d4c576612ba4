-- raised meets its contract.
use Rattle.exact.proofs.Words.{cast_wide, wide_is}
use mir.Facts.{to_z-of_z}
use Rattle.windows.proofs.Comparing.{raise_wide}
use Rattle.windows.proofs.raised.Statement.{statement}
use Rattle.windows.proofs.raised.Tie as tie

pub raised_spec : {M : Type 1} → statement M
raised_spec =
    tie.close
    (tie.spec
    (λ c. cast_wide c.ranges.z)
    (λ c. rw (wide_is c.ranges.z) (raise_wide c.ranges.z))
    (λ c. rw (wide_is c.ranges.z) (to_z-of_z (raise_wide c.ranges.z))))
