-- The numbers that a reason has: a taker or a place is below the most records.
use Rattle.std.specs.Prelude.{◌<◌}
use Rattle.job.specs.Limits as limit
use Rattle.telling.specs.declared.Reason.{Reason}
use Rattle.telling.specs.declared.Reason.TheVariants.{NoRing, Joined, SmallRing, RingFell, SmallArea, ShortPath, SmallPath, Written}
use Rattle.std.specs.Prelude.{Result, Ok, Err}
use Rattle.job.specs.declared.refusal.Refusal.{Refusal}

abbrev pub NumberWithin : Reason → Type 0
NumberWithin NoRing = Unit {0}
NumberWithin (Joined t) = t < limit.RECORDS
NumberWithin SmallRing = Unit {0}
NumberWithin RingFell = Unit {0}
NumberWithin SmallArea = Unit {0}
NumberWithin ShortPath = Unit {0}
NumberWithin SmallPath = Unit {0}
NumberWithin (Written o place) = place < limit.RECORDS

abbrev pub ToldWithin : Result Reason Refusal → Type 0
ToldWithin (Ok r) = NumberWithin r
ToldWithin (Err x) = Unit {0}
