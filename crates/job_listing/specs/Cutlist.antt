-- The listing of a job: document 01, "The listing", of what finishing it in one call answers, writes and leaves; with document 02's charge, at a rate.
use Rattle.std.specs.Prelude.{ℕ, Bool, cond, List, ltb, length}
use Rattle.job.specs.Refusal.{number_of}
use Rattle.job.specs.declared.refusal.Refusal.TheVariants.{Full, BadRate}
use Rattle.rates.specs.declared.Rate.{Rate}
use Rattle.rates.specs.declared.Rate.TheVariants.{NoRate, Cents, Bad}
use Rattle.rates.specs.Rate.{asked}
use Rattle.store.specs.Field.{LENGTH}
use Rattle.store.specs.Words.{view}
use Rattle.store.specs.Value.{reverse_solution}
use Rattle.std.specs.Prelude.{Result, Ok, Err}
use Rattle.job.specs.declared.refusal.Refusal.{Refusal}
use Rattle.paths.specs.declared.Written.{Written}
use Rattle.listing.specs.Lines.{listing_of, refused_line}
use Rattle.listing.specs.Charge.{charged_of}
use Rattle.listing.specs.Told.{Told, tell}
use Rattle.finishing.specs.InOneCall.{Finished, refused, finish_of}

-- of an accepted job's paths under a setting of `reverse_solution`: "Without an argument the listing has no such line"
abbrev pub paths_at : Rate → Bool → ℕ → ℕ → List ℕ → List ℕ
paths_at NoRate rev closed open' t = listing_of rev closed open' t
paths_at (Cents n) rev closed open' t = charged_of rev n closed open' t
paths_at Bad rev closed open' t = refused_line (number_of BadRate)

-- of the answer, the words and the tray: the setting is the one that the words hold. "A refusal prints `refused` and its number only"
abbrev pub listed_as : Rate → Result Written Refusal → List ℕ → List ℕ → List ℕ
listed_as rate (Ok p) w t = paths_at rate (reverse_solution (view w)) p.closed p.«open» t
listed_as rate (Err x) w t = refused_line (number_of x)

abbrev pub listed_from : Rate → Finished → List ℕ
listed_from rate f = listed_as rate f.answer f.words f.tray

-- of the job's bytes, in a lent work space and a tray t, at a rate that is not bad
unfoldable pub cutlist_of : Rate → List ℕ → List ℕ → List ℕ → List ℕ
cutlist_of rate bytes lent t = listed_from rate (finish_of bytes lent t)

-- ---- `list_job`

-- the answer and the text slice, the words, and the tray that are left
pub record ListedJob : Type 0 where
  pub text : Told
  pub words : List ℕ
  pub tray : List ℕ

abbrev pub listed_job : Told → List ℕ → List ℕ → ListedJob
listed_job x w t = record { text = x; words = w; tray = t }

-- words and tray are those of finishing in one call, and the text is their listing, as far as `out` has room for it
abbrev pub listed_out : Rate → Finished → List ℕ → ListedJob
listed_out rate f out = listed_job (tell (listed_from rate f) out) f.words f.tray

-- row 10, "tested first of all, by every call": words and tray are zero, as finishing leaves them
abbrev pub short_out : List ℕ → List ℕ → List ℕ → ListedJob
short_out w t out = listed_out NoRate (refused Full (length w) (length t)) out

-- 13, "tested before the job is read": nothing else is touched
abbrev pub bad_out : List ℕ → List ℕ → List ℕ → ListedJob
bad_out w t out = listed_job (tell (refused_line (number_of BadRate)) out) w t

-- by the rate that is asked for
abbrev pub listed_by : Rate → List ℕ → List ℕ → List ℕ → List ℕ → ListedJob
listed_by NoRate bytes w t out = listed_out NoRate (finish_of bytes w t) out
listed_by (Cents n) bytes w t out = listed_out (Cents n) (finish_of bytes w t) out
listed_by Bad bytes w t out = bad_out w t out

-- by the rate, the job's bytes, the work space, the tray and the slice that are handed over
unfoldable pub list_job_of : Rate → List ℕ → List ℕ → List ℕ → List ℕ → ListedJob
list_job_of rate bytes w t out = cond (ltb (length w) LENGTH) (short_out w t out) (listed_by (asked rate) bytes w t out)
