-- Which shape lies in which, of a job: document 02, Ask 12, "For a job finished in one call, with that call's refusals, give in a lent slice .. A short slice meets 11; past the answers, and on refusals, it is zero."
use Rattle.std.specs.Prelude.{ℕ, ◌-◌, ◌*◌, cond, List, leb, length, replicate}
use Rattle.job.specs.Limits.{RECORDS}
use Rattle.job.specs.declared.refusal.Refusal.TheVariants.{SmallTray}
use Rattle.std.specs.Prelude.{Result, Ok, Err}
use Rattle.job.specs.declared.refusal.Refusal.{Refusal}
use Rattle.paths.specs.Wrote.{ok_paths}
use Rattle.paths.specs.declared.Written.{Written}
use Rattle.paths.specs.Tray.{padded}
use Rattle.listing.specs.Fields.{paths_in}
use Rattle.finishing.specs.InOneCall.{Finished, finish_of}
use Rattle.containment.specs.Answers.{pair_answers}

-- the answer, the words, the tray and the slice of answers that are left
pub record Contained : Type 0 where
  pub answer : Result Written Refusal
  pub words : List ℕ
  pub tray : List ℕ
  pub answers : List ℕ

abbrev pub contained : Result Written Refusal → List ℕ → List ℕ → List ℕ → Contained
contained r w t a = record { answer = r; words = w; tray = t; answers = a }

-- row 11: n words, m bytes of the tray and k of the slice, all zero
abbrev pub short_slice : ℕ → ℕ → ℕ → Contained
short_slice n m k = contained (Err SmallTray) (replicate n 0) (replicate m 0) (replicate k 0)

-- the answers, in a slice of k bytes; or row 11
abbrev pub answered : ℕ → ℕ → List ℕ → List ℕ → List ℕ → ℕ → Contained
answered c o w t bytes k = cond (leb (length bytes) k) (contained (ok_paths c o) w t (padded k bytes)) (short_slice (length w) (length t) k)

-- finishing has answered, and left words and a tray: the tray's first c fields hold the closed paths
abbrev pub after_finishing : Result Written Refusal → List ℕ → List ℕ → ℕ → Contained
after_finishing (Ok p) w t k = answered p.closed p.«open» w t (pair_answers (paths_in t p.closed 0)) k
after_finishing (Err x) w t k = contained (Err x) w t (replicate k 0)

abbrev pub contained_from : Finished → ℕ → Contained
contained_from f k = after_finishing f.answer f.words f.tray k

-- `contained`, by the job's bytes, the lent work space, the tray, and the length k of the slice of answers
unfoldable pub contained_of : List ℕ → List ℕ → List ℕ → ℕ → Contained
contained_of bytes lent t k = contained_from (finish_of bytes lent t) k

-- so many bytes suffice for the answers of any job
abbrev pub ANSWERS : ℕ
ANSWERS = RECORDS * (RECORDS - 1)
