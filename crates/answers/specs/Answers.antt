-- The numbers by which the calls for C and Rust hand over what an entry point answers, each case of each enum by its number and values; and a rate handed over as a number.
use Rattle.std.specs.Prelude.{ℕ, zero, suc, ◌+◌, ◌*◌, ◌^◌, Result, Ok, Err}
use Rattle.rates.specs.declared.Rate.{Rate}
use Rattle.rates.specs.declared.Rate.TheVariants.{NoRate, Cents}
use Rattle.job.specs.Refusal.{number_of}
use Rattle.std.specs.Prelude.{Option, Some, None}
use Rattle.job.specs.declared.refusal.Refusal.{Refusal}
use Rattle.paths.specs.declared.Written.{Written}
use Rattle.paths.specs.Tray.{tag_of}
use Rattle.telling.specs.declared.Reason.{Reason}
use Rattle.telling.specs.declared.Reason.TheVariants.{NoRing, Joined, SmallRing, RingFell, SmallArea, ShortPath, SmallPath}
use Rattle.telling.specs.declared.Reason.TheVariants as reason

-- ---- numbers of answers: no refusal is 0

abbrev pub opened_number : Result (Unit {0}) Refusal → ℕ
opened_number (Ok _) = 0
opened_number (Err x) = number_of x

abbrev pub reply_number : Result (Unit {0}) Refusal → ℕ
reply_number (Ok _) = 0
reply_number (Err x) = number_of x

abbrev pub written_number : Result Written Refusal → ℕ
written_number (Ok p) = 0
written_number (Err x) = number_of x

-- how many bytes a listing has; 0 if there was no room
abbrev pub listed_bytes : Option ℕ → ℕ
listed_bytes (Some n) = n
listed_bytes None = 0

-- in the low half 0 or the refusal's number, as of every other call; in the high half how many bytes the job has
abbrev pub rewritten_number : Result ℕ Refusal → ℕ
rewritten_number (Ok k) = 2 ^ 32 * k
rewritten_number (Err x) = number_of x

-- a reason in one word: in the first byte its number, document 02's order from 1; in the second the tag of the list that its path is in; above them its taker, or its path's place; 0 for each that it does not have
abbrev pub reason_word : Reason → ℕ
reason_word NoRing = 1
reason_word (Joined taker) = 2 + 65536 * taker
reason_word SmallRing = 3
reason_word RingFell = 4
reason_word SmallArea = 5
reason_word ShortPath = 6
reason_word SmallPath = 7
reason_word (reason.Written o place) = 8 + 256 * tag_of o + 65536 * place

-- in the low half 0 or the refusal's number, in the high half the reason
abbrev pub told_number : Result Reason Refusal → ℕ
told_number (Ok x) = 2 ^ 32 * reason_word x
told_number (Err x) = number_of x

-- in the low half 0 or the refusal's number, in the high half how many records were found
abbrev pub found_number : Result ℕ Refusal → ℕ
found_number (Ok n) = 2 ^ 32 * n
found_number (Err x) = number_of x

-- ---- a number handed over as a rate: 0 for none

abbrev pub rate_from : ℕ → Rate
rate_from zero = NoRate
rate_from (suc n) = Cents (suc n)
