-- The reasons that a record without a ring keeps, by their numbers: the first five of document 02's eight. "no ring in the job; joined into another record, with the number of the one that took it
-- in that join; too small at the validity test; fell invalid while points were removed; area under 2.0 at a split".
use Rattle.std.specs.Prelude.{ℕ, zero, suc, Bool, ◌&&◌, leb}
use Rattle.std.proofs.Math.Option.{Option, none, some}
use Rattle.rings.specs.Progress.{Discard, at_validity, while_removing, at_split}

-- no ring in the job
abbrev pub NO_RING : ℕ
NO_RING = 1

-- joined into another record
abbrev pub JOINED : ℕ
JOINED = 2

-- discarded by a step
abbrev pub reason_number : Discard → ℕ
reason_number at_validity = 3
reason_number while_removing = 4
reason_number at_split = 5

-- back: the rule that discarded the ring, none where another number is kept
abbrev pub discard_of : ℕ → Option Discard
discard_of zero = none
discard_of (suc zero) = none
discard_of (suc (suc zero)) = none
discard_of (suc (suc (suc zero))) = some at_validity
discard_of (suc (suc (suc (suc zero)))) = some while_removing
discard_of (suc (suc (suc (suc (suc zero))))) = some at_split
discard_of (suc (suc (suc (suc (suc (suc n)))))) = none

-- one of the five
abbrev pub is_kept : ℕ → Bool
is_kept v = leb NO_RING v && leb v (reason_number at_split)
