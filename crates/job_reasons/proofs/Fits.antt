-- The text of a job's records has at most `TEXT` bytes: so a program that lends as many always has room for it.
use Prim.Native.Nat.{ℕ, zero, suc, ◌+◌, ◌*◌, ◌/◌, ◌%◌, ◌≤◌, ◌<◌}
use mathlib.Core.Path.{◌≡◌, refl, ap, ◌∙◌, subst}
use mathlib.Core.Bool.{Bool, true, false, cond}
use mathlib.Core.List.{List, [], ◌∷◌, ◌++◌}
use native.Mathlib.Omega.{arith}
use native.Mathlib.Decide.{dec_lt}
use lib.Dec.{leb}
use lib.ListN.{length, drop, length-append}
use lib.Seq.{take_all}
use borrow.Author.Tests.{le-leb}
use Rattle.std.proofs.Common.{Ok, Err}
use Rattle.job.specs.Refusal.{number_of}
use Rattle.job.specs.declared.refusal.Refusal.TheVariants.{SmallTray}
use Rattle.store.specs.Words.{view}
use Rattle.store.specs.Sound.{recs}
use Rattle.acts.specs.Finish.{RingsEnd, rings_done, rings_full}
use Rattle.std.specs.Prelude.{Option, Some, Result, Ok, Err}
use Rattle.job.specs.declared.refusal.Refusal.{Refusal}
use Rattle.paths.specs.Wrote.{ok_paths}
use Rattle.paths.specs.declared.Written.{Written}
use Rattle.paths.specs.Path.{closed_paths, open_paths}
use Rattle.paths.specs.Tray.{fields_of, padded}
use Rattle.paths.specs.Wrote.{wrote, build_paths64}
use Rattle.telling.specs.declared.Reason.{Reason}
use Rattle.telling.specs.declared.Reason.TheVariants as reason
use Rattle.telling.specs.Telling.{reason_at}
use Rattle.telling.specs.Within.{NumberWithin, ToldWithin}
use Rattle.telling.proofs.Within.{told_within}
use Rattle.opening.specs.Open.{End, end, open_of}
use Rattle.finishing.specs.Finish.{finish_rings}
use Rattle.finishing.specs.InOneCall.{after_writing, after_steps, after_opening, finish_of}
use Rattle.finishing.proofs.Refusals.{OpenedTo, open_rows}
use Rattle.text.specs.Text.{SPACE, NEWLINE, digit, decimal}
use Rattle.listing.specs.Words.{REFUSED}
use Rattle.listing.specs.Lines.{refused_line}
use Rattle.listing.specs.Told.{told, tell}
use Rattle.text.proofs.Decimals.{decimal_small, decimal_more}
use Rattle.job_listing.specs.Cutlist.{ListedJob, listed_job}
use Rattle.job_reasons.specs.Words.{RECORD, COLON, JOINED_INTO, CLOSED_OUTLINE, OPEN_OUTLINE}
use Rattle.job_reasons.specs.Lines.{why_text, line_of, lines_below, reasons_text}
use Rattle.job_reasons.specs.Room.{TEXT}
use Rattle.job_reasons.specs.Needs.{Tellable}
use Rattle.job_reasons.specs.Reasons.{reasons_as, reasons_of, tell_job_of}
use Rattle.job_reasons.proofs.Finished.{call_told, left_tellable}
use Rattle.job_reasons.proofs.Telling.{few_records}

-- ---- numbers: three digits at most below 1,000

module _ (n : ℕ) where
  one_digit : n < 10 → length (decimal n) ≡ 1
  one_digit h = ap length (decimal_small n h)

  one_more : (k : ℕ) → n < 1000 → length (decimal (n / 10)) ≤ k → length (decimal n) ≤ suc k
  one_more k h l = go (dec_lt n 10)
    where
      go : Dec (n < 10) → length (decimal n) ≤ suc k
      go (yes z) = omega (arith, one_digit z)
      go (no z) = omega (arith, ap length (decimal_more n (omega arith) (omega arith)), length-append (decimal (n / 10)) (digit (n % 10) ∷ []))

three_digits : (n : ℕ) → n < 1000 → length (decimal n) ≤ 3
three_digits n h = one_more n 2 h (one_more (n / 10) 1 (omega arith) (omega (arith, one_digit (n / 10 / 10) (omega arith))))

-- ---- a line

why_le : (x : Reason) → NumberWithin x → length (why_text x) ≤ 40
why_le reason.NoRing h = omega arith
why_le (reason.Joined taker) h = omega (arith, length-append JOINED_INTO (decimal taker), three_digits taker (omega arith))
why_le reason.SmallRing h = omega arith
why_le reason.RingFell h = omega arith
why_le reason.SmallArea h = omega arith
why_le reason.ShortPath h = omega arith
why_le reason.SmallPath h = omega arith
why_le (reason.Written false place) h = omega (arith, length-append CLOSED_OUTLINE (decimal place), three_digits place (omega arith))
why_le (reason.Written true place) h = omega (arith, length-append OPEN_OUTLINE (decimal place), three_digits place (omega arith))

line_le : (i : ℕ) (x : Reason) → i < 1000 → NumberWithin x → length (line_of i x) ≤ 53
line_le i x l h =
    omega (
      arith,
      length-append (RECORD ++ decimal i ++ COLON ++ why_text x) (NEWLINE ∷ []),
      length-append (RECORD ++ decimal i ++ COLON) (why_text x),
      length-append (RECORD ++ decimal i) COLON,
      length-append RECORD (decimal i),
      three_digits i l,
      why_le x h,
    )

refused_le : (n : ℕ) → n < 1000 → length (refused_line n) ≤ TEXT
refused_le n h =
    omega (
      arith,
      length-append (REFUSED ++ (SPACE ∷ []) ++ decimal n) (NEWLINE ∷ []),
      length-append (REFUSED ++ (SPACE ∷ [])) (decimal n),
      three_digits n h,
    )

-- ---- a work space

module _ (w : List ℕ) (h : Tellable w) where
  reason_within : (i : ℕ) → i < recs (view w) → NumberWithin (reason_at (view w) i)
  reason_within i l = subst ToldWithin (call_told w i (record { work = h; known = l })) (told_within w i)

  lines_le : (n : ℕ) → n ≤ recs (view w) → length (lines_below (view w) n) ≤ 53 * n
  lines_le zero l = omega arith
  lines_le (suc n) l =
      omega (
        arith,
        length-append (lines_below (view w) n) (line_of n (reason_at (view w) n)),
        lines_le n (omega arith),
        line_le n (reason_at (view w) n) (omega (arith, few_records w h)) (reason_within n (omega arith)),
      )

  text_le : length (reasons_text (view w)) ≤ TEXT
  unfolding reasons_text
  text_le = omega (arith, lines_le (recs (view w)) (omega arith), few_records w h)

-- ---- a job

-- finishing gives rows 1 to 11
abbrev RefusedTo : ℕ → Result Written Refusal → Type 0
RefusedTo m (Ok p) = Unit {0}
RefusedTo m (Err x) = number_of x ≤ m

module _ (bytes lent t : List ℕ) where
  finish_rows : RefusedTo 11 (finish_of bytes lent t).answer
  unfolding finish_of build_paths64
  finish_rows = go (open_of bytes lent) (open_rows bytes lent)
    where
      written : (w : List ℕ) (b : Bool) (c o : ℕ) (u : List ℕ) → RefusedTo 11 (after_writing w (cond b (wrote (ok_paths c o) u) (wrote (Err SmallTray) t)).answer (cond b (wrote (ok_paths c o) u) (wrote (Err SmallTray) t)).tray).answer
      written w true c o u = tt
      written w false c o u = omega arith

      stepped : (r : RingsEnd) → RefusedTo 11 (after_steps r t).answer
      stepped (rings_done w) = written w (leb (length (fields_of (view w))) (length t)) (length (closed_paths (view w))) (length (open_paths (view w))) (padded (length t) (fields_of (view w)))
      stepped (rings_full w) = omega arith

      go : (r : End) → OpenedTo 10 r → RefusedTo 11 (after_opening r t).answer
      go (end (Ok tt) w) k = stepped (finish_rings w)
      go (end (Err x) w) k = omega (arith, k)

  pub reasons_fit : length (reasons_of bytes lent t) ≤ TEXT
  unfolding reasons_of
  reasons_fit = go (finish_of bytes lent t).answer refl finish_rows
    where
      go : (r : Result Written Refusal) → (finish_of bytes lent t).answer ≡ r → RefusedTo 11 r → length (reasons_as r (finish_of bytes lent t).words) ≤ TEXT
      go (Ok p) h k = text_le (finish_of bytes lent t).words (left_tellable bytes lent t p.closed p.«open» h)
      go (Err x) h k = refused_le (number_of x) (omega (arith, k))

-- a text that has room is told whole
tell_all : (text out : List ℕ) → length text ≤ length out → tell text out ≡ told (Some (length text)) (text ++ drop (length text) out)
unfolding tell
tell_all text out h = rw (le-leb (length text) (length out) h, take_all (length out) text h)

-- so `tell_job` answers how long the text is, and the slice begins with it
pub told_whole : (bytes w t w' t' out out' : List ℕ) (a : Option ℕ) → TEXT ≤ length out → listed_job (told a out') w' t' ≡ tell_job_of bytes w t out
    → told a out' ≡ told (Some (length (reasons_of bytes w t))) (reasons_of bytes w t ++ drop (length (reasons_of bytes w t)) out)
unfolding tell_job_of reasons_of
told_whole bytes w t w' t' out out' a h e = ap (λ (x : ListedJob). x.text) e ∙ tell_all (reasons_of bytes w t) out (omega (arith, reasons_fit bytes w t))
