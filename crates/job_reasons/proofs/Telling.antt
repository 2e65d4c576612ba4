-- What the needs of the code of a work space's records and of the job come to.
use Prim.Native.Nat.{ℕ, ◌≤◌, ◌<◌, ◌^◌}
use mathlib.Core.Path.{◌≡◌, sym, ap, ◌∙◌, subst}
use mathlib.Core.List.{List}
use native.Mathlib.Omega.{arith}
use lib.ListN.{length}
use Rattle.job.specs.Limits as limit
use Rattle.job.specs.Refusal.{number_of}
use Rattle.job.specs.declared.refusal.Refusal.{Refusal}
use Rattle.store.specs.Field.{BLOCK}
use Rattle.store.specs.Words.{view}
use Rattle.store.specs.Sound.{recs}
use Rattle.handed.proofs.Handing.{handed_sound}
use Rattle.std.specs.Prelude.{Option, Result, Ok, Err}
use Rattle.paths.specs.declared.Written.{Written}
use Rattle.telling.specs.declared.Reason.{Reason}
use Rattle.telling.specs.Telling.{reason_at, reason_of}
use Rattle.finishing.specs.InOneCall.{Finished, finished, finish_of}
use Rattle.text.specs.Pour.{poured, pour}
use Rattle.listing.specs.Lines.{refused_line}
use Rattle.listing.specs.Told as listing
use Rattle.listing.specs.Told.{told, tell}
use Rattle.job_listing.specs.Cutlist.{listed_job}
use Rattle.job_reasons.specs.Lines.{line_of, reasons_text}
use Rattle.job_reasons.specs.Needs.{Tellable, TellableAt}
use Rattle.job_reasons.specs.Reasons.{reasons_as, told_out, tell_job_of}
use Rattle.job_reasons.proofs.Finished.{call_told, tellable}

-- ---- a record

pub long_enough : (w : List ℕ) → Tellable w → BLOCK ≤ length w
long_enough w h = (handed_sound w h.tested).long

pub few_records : (w : List ℕ) → Tellable w → recs (view w) ≤ limit.RECORDS
few_records w h = (handed_sound w h.tested).sound.few_records

pub known_record : (w : List ℕ) (n i : ℕ) → Tellable w → n ≡ recs (view w) → i < n → TellableAt w i
known_record w n i h e l = record { work = h; known = omega arith }

module _ (w : List ℕ) (i : ℕ) (h : TellableAt w i) where
  pub number_fits : i < 2 ^ 32
  number_fits = omega (arith, h.known, few_records w h.work)

  module _ (a : Result Reason Refusal) (e : a ≡ reason_of w i) (at : ℕ) (t : List ℕ) where
    pub record_told : (x : Reason) (r : ℕ) (u : List ℕ) → a ≡ Ok x → poured r u ≡ pour (line_of i x) at t → poured r u ≡ pour (line_of i (reason_at (view w) i)) at t
    record_told x r u f g =
        let d : Ok x ≡ Ok (reason_at (view w) i) = sym f ∙ e ∙ call_told w i h in
        let z : x ≡ reason_at (view w) i = cc in
        g ∙ ap (λ (y : Reason). pour (line_of i y) at t) z

    -- a refusal there is not
    pub never_refused : (x : Refusal) → a ≡ Err x → poured at t ≡ pour (line_of i (reason_at (view w) i)) at t
    never_refused x f =
        let d : Err x ≡ Ok (reason_at (view w) i) = sym f ∙ e ∙ call_told w i h in
        let z : ◌≡◌ {A = ℕ} 0 1 = cc in
        absurd (omega arith)

-- ---- a job

module _ (bytes w t w' t' : List ℕ) (r : Result Written Refusal) (e : finished r w' t' ≡ finish_of bytes w t) where
  pub may_tell : (p : Written) → r ≡ Ok p → Tellable w'
  may_tell p h = tellable bytes w t w' t' p.closed p.«open» (subst (λ (z : Result Written Refusal). finished z w' t' ≡ finish_of bytes w t) h e)

  module _ (out out' : List ℕ) (a : Option ℕ) where
    as_told : (text : List ℕ) → reasons_as r w' ≡ text → told a out' ≡ tell text out → listed_job (told a out') w' t' ≡ tell_job_of bytes w t out
    unfolding tell_job_of
    as_told text h g = ap (λ (x : listing.Told). listed_job x w' t') (g ∙ ap (λ (s : List ℕ). tell s out) (sym h)) ∙ ap (λ (f : Finished). told_out f out) e

    pub job_told : (p : Written) → r ≡ Ok p → told a out' ≡ tell (reasons_text (view w')) out → listed_job (told a out') w' t' ≡ tell_job_of bytes w t out
    job_told p h g = as_told (reasons_text (view w')) (ap (λ (z : Result Written Refusal). reasons_as z w') h) g

    pub job_refused : (x : Refusal) (n : ℕ) → r ≡ Err x → n ≡ number_of x → told a out' ≡ tell (refused_line n) out → listed_job (told a out') w' t' ≡ tell_job_of bytes w t out
    job_refused x n h k g = as_told (refused_line n) (ap (λ (z : Result Written Refusal). reasons_as z w') h ∙ ap refused_line (sym k)) g
