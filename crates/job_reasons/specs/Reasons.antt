-- Where the records of a job went: the lines of what finishing it in one call leaves, or its refusal alone.
use Rattle.std.specs.Prelude.{ℕ, List, length}
use Rattle.job.specs.Refusal.{number_of}
use Rattle.store.specs.Words.{view}
use Rattle.std.specs.Prelude.{Result, Ok, Err}
use Rattle.job.specs.declared.refusal.Refusal.{Refusal}
use Rattle.paths.specs.declared.Written.{Written}
use Rattle.listing.specs.Lines.{refused_line}
use Rattle.listing.specs.Told.{tell}
use Rattle.finishing.specs.InOneCall.{Finished, finish_of}
use Rattle.job_listing.specs.Cutlist.{ListedJob, listed_job}
use Rattle.job_reasons.specs.Lines.{reasons_text}

-- of the answer and the words
abbrev pub reasons_as : Result Written Refusal → List ℕ → List ℕ
reasons_as (Ok p) w = reasons_text (view w)
reasons_as (Err x) w = refused_line (number_of x)

abbrev pub reasons_from : Finished → List ℕ
reasons_from f = reasons_as f.answer f.words

-- of the job's bytes, in a lent work space and a tray t
unfoldable pub reasons_of : List ℕ → List ℕ → List ℕ → List ℕ
reasons_of bytes lent t = reasons_from (finish_of bytes lent t)

-- `tell_job`: words and tray are those of finishing in one call, and the text is theirs, as far as `out` has room for it
abbrev pub told_out : Finished → List ℕ → ListedJob
told_out f out = listed_job (tell (reasons_from f) out) f.words f.tray

-- by the job's bytes, the work space, the tray and the slice that are handed over
unfoldable pub tell_job_of : List ℕ → List ℕ → List ℕ → List ℕ → ListedJob
tell_job_of bytes w t out = told_out (finish_of bytes w t) out
