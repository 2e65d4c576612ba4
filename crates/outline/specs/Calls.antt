-- The calls for C and Rust: 0 or the table's number, and the words and bytes that the entry point of the same name leaves, on every input.
use Rattle.std.specs.Prelude.{ℕ, Bool, cond, ◌&&◌, List, leb, ltb, ℤ, length}
use Rattle.audit.specs.Left.{Left}
use Rattle.store.specs.Field.{LENGTH}
use Rattle.paths.specs.Wrote as paths
use Rattle.opening.specs.Open.{End, end, open_of}
use Rattle.finishing.specs.Step.{step_of}
use Rattle.finishing.specs.Write.{write_of}
use Rattle.finishing.specs.InOneCall as call
use Rattle.finishing.specs.InOneCall.{finish_of}
use Rattle.states.specs.Calls.{keep_of, go_back_of, drop_of}
use Rattle.laying.specs.Lay.{lay_of}
use Rattle.listing.specs.Room.{TEXT}
use Rattle.job_listing.specs.Cutlist.{ListedJob, list_job_of}
use Rattle.containment.specs.Contained.{Contained, contained_of}
use Rattle.rewriting.specs.Rewrite.{Rewrote, rewrite_of}
use Rattle.mending.specs.Mend.{Mended, mend_of}
use Rattle.telling.specs.Telling.{reason_of}
use Rattle.geometry.specs.declared.Rect.{Rect}
use Rattle.windows.specs.RecordsIn.{FoundIn, records_in}
use Rattle.answers.specs.Answers.{opened_number, reply_number, written_number, listed_bytes, rewritten_number, told_number, found_number, rate_from}

-- ---- a number with what is left

-- a call that changes the work space only
pub record Worked : Type 0 where
  pub number : ℕ
  pub words : List ℕ

abbrev pub worked : ℕ → List ℕ → Worked
worked n w = record { number = n; words = w }

-- a call that changes the tray only
pub record Wrote : Type 0 where
  pub number : ℕ
  pub tray : List ℕ

abbrev pub wrote : ℕ → List ℕ → Wrote
wrote n t = record { number = n; tray = t }

-- a call that changes both
pub record Finished : Type 0 where
  pub number : ℕ
  pub words : List ℕ
  pub tray : List ℕ

abbrev pub finished : ℕ → List ℕ → List ℕ → Finished
finished n w t = record { number = n; words = w; tray = t }

-- a call that changes these and the text
pub record Listing : Type 0 where
  pub bytes : ℕ
  pub words : List ℕ
  pub tray : List ℕ
  pub text : List ℕ

abbrev pub listing : ℕ → List ℕ → List ℕ → List ℕ → Listing
listing n w t s = record { bytes = n; words = w; tray = t; text = s }

-- a call that changes these and the answers for pairs
pub record Pairs : Type 0 where
  pub number : ℕ
  pub words : List ℕ
  pub tray : List ℕ
  pub answers : List ℕ

abbrev pub pairs : ℕ → List ℕ → List ℕ → List ℕ → Pairs
pairs n w t a = record { number = n; words = w; tray = t; answers = a }

-- a call that changes the job only
pub record MendedJob : Type 0 where
  pub number : ℕ
  pub job : List ℕ

abbrev pub mended_job : ℕ → List ℕ → MendedJob
mended_job n s = record { number = n; job = s }

-- a call that changes the list only
pub record Records : Type 0 where
  pub number : ℕ
  pub list : List ℕ

abbrev pub found_in : ℕ → List ℕ → Records
found_in n l = record { number = n; list = l }

-- a window handed over side by side; as in core.rs, top is the least y
abbrev pub window : ℤ → ℤ → ℤ → ℤ → Rect
window l t r b = record { left = l; top = t; right = r; bottom = b }

-- ---- the calls

abbrev pub as_opened : End → Worked
as_opened (end a w) = worked (opened_number a) w

abbrev pub as_replied : Left → Worked
as_replied l = worked (reply_number l.answer) l.words

abbrev pub as_written : paths.Wrote → Wrote
as_written l = wrote (written_number l.answer) l.tray

abbrev pub as_finished : call.Finished → Finished
as_finished l = finished (written_number l.answer) l.words l.tray

abbrev pub as_listed : ListedJob → Listing
as_listed l = listing (listed_bytes l.text.answer) l.words l.tray l.text.out

abbrev pub as_contained : Contained → Pairs
as_contained l = pairs (written_number l.answer) l.words l.tray l.answers

abbrev pub as_rewritten : Rewrote → Finished
as_rewritten l = finished (rewritten_number l.answer) l.words l.tray

abbrev pub as_mended : Mended → MendedJob
as_mended l = mended_job (reply_number l.answer) l.bytes

-- `outline_open`, by the job's bytes and the lent work space
unfoldable pub open_c : List ℕ → List ℕ → Worked
open_c bytes lent = as_opened (open_of bytes lent)

-- `outline_step`
unfoldable pub step_c : List ℕ → ℕ → Worked
step_c w i = as_replied (step_of w i)

-- `outline_keep`, `outline_go_back`, `outline_drop`
unfoldable pub keep_c : List ℕ → ℕ → Worked
keep_c w n = as_replied (keep_of w n)

unfoldable pub back_c : List ℕ → ℕ → Worked
back_c w n = as_replied (go_back_of w n)

unfoldable pub drop_c : List ℕ → ℕ → Worked
drop_c w n = as_replied (drop_of w n)

-- `outline_lay_together`
unfoldable pub lay_c : List ℕ → List ℕ → Worked
lay_c w v = as_replied (lay_of w v)

-- `outline_write`
unfoldable pub write_c : List ℕ → List ℕ → Wrote
write_c w t = as_written (write_of w t)

-- `outline_finish`
unfoldable pub finish_c : List ℕ → List ℕ → List ℕ → Finished
finish_c bytes lent t = as_finished (finish_of bytes lent t)

-- a work space that is long enough, and a text too short for some job's listing: row 10 comes before that
abbrev pub text_short : ℕ → ℕ → Bool
text_short words bytes = leb LENGTH words && ltb bytes TEXT

-- `outline_list`, of the job's bytes, the words, the tray, the rate and the text: a text that is too short is left as found, and so is all else
unfoldable pub list_c : List ℕ → List ℕ → List ℕ → ℕ → List ℕ → Listing
list_c bytes w t rate s = cond (text_short (length w) (length s)) (listing 0 w t s) (as_listed (list_job_of (rate_from rate) bytes w t s))

-- `outline_rewrite`, by the job's bytes, the length n of the work space and the length m of the tray
unfoldable pub rewrite_c : List ℕ → ℕ → ℕ → Finished
rewrite_c bytes n m = as_rewritten (rewrite_of bytes n m)

-- `outline_reason`
unfoldable pub reason_c : List ℕ → ℕ → ℕ
reason_c w i = told_number (reason_of w i)

-- `outline_contained`: with the lent tray, of the answers only their length counts
unfoldable pub contained_c : List ℕ → List ℕ → List ℕ → ℕ → Pairs
contained_c bytes lent t k = as_contained (contained_of bytes lent t k)

-- `outline_mend`
unfoldable pub mend_c : List ℕ → MendedJob
mend_c bytes = as_mended (mend_of bytes)

abbrev pub as_found : FoundIn → Records
as_found a = found_in (found_number a.answer) a.list

-- `outline_records_in`
unfoldable pub records_c : List ℕ → Rect → List ℕ → Records
records_c w v l = as_found (records_in w v l)
