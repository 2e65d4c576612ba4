-- How many records a call finds at most.
use Rattle.std.specs.Prelude.{ℕ, ◌≤◌, Result, Ok, Err}
use Rattle.job.specs.Limits as limit
use Rattle.job.specs.declared.refusal.Refusal.{Refusal}

abbrev pub FoundWithin : Result ℕ Refusal → Type 0
FoundWithin (Ok n) = n ≤ limit.RECORDS
FoundWithin (Err x) = Unit {0}
