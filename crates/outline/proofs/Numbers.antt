-- The number of what an entry point answered, with what it left, is the exported call's.
use Prim.Native.Nat.{ℕ}
use mathlib.Core.Path.{◌≡◌, sym, ap, ◌∙◌, subst}
use mathlib.Core.Bool.{Bool, true, false, cond}
use mathlib.Core.List.{List}
use lib.IntN.{ℤ}
use lib.ListN.{length}
use mir.Syntax.{w32}
use mir.Val.{SFits}
use mir.Facts.{to_z-of_z}
use Rattle.std.specs.Prelude.{Result}
use Rattle.job.specs.declared.refusal.Refusal.{Refusal}
use Rattle.exact.proofs.Words.{i32}
use Rattle.audit.specs.Left.{left}
use Rattle.rates.specs.declared.Rate.{Rate}
use Rattle.std.specs.Prelude.{Option, Result}
use Rattle.paths.specs.declared.Written.{Written}
use Rattle.telling.specs.declared.Reason.{Reason}
use Rattle.paths.specs.Wrote as paths
use Rattle.opening.specs.Open.{end, open_of}
use Rattle.finishing.specs.Step.{step_of}
use Rattle.finishing.specs.Write.{write_of}
use Rattle.finishing.specs.InOneCall as call
use Rattle.finishing.specs.InOneCall.{finish_of}
use Rattle.listing.specs.Told.{told}
use Rattle.job_listing.specs.Cutlist.{listed_job, list_job_of}
use Rattle.containment.specs.Contained.{contained, contained_of}
use Rattle.rewriting.specs.Rewrite.{rewrote, rewrite_of}
use Rattle.telling.specs.Telling.{reason_of}
use Rattle.telling.specs.Within.{ToldWithin}
use Rattle.telling.proofs.Within.{told_within}
use Rattle.states.specs.Calls.{keep_of, go_back_of, drop_of}
use Rattle.laying.specs.Lay.{lay_of}
use Rattle.mending.specs.Mend.{mended, mend_of}
use Rattle.windows.specs.RecordsIn.{FoundIn, found, records_in}
use Rattle.windows.specs.Within.{FoundWithin}
use Rattle.windows.proofs.Within.{found_within}
use Rattle.outline.specs.Calls.{text_short, worked, wrote, finished, listing, pairs, as_opened, as_replied, as_written, as_finished, as_listed, as_contained, as_rewritten, as_mended, open_c, step_c, keep_c, back_c, drop_c, lay_c, write_c, finish_c, list_c, rewrite_c, reason_c, contained_c, mended_job, mend_c, found_in, window, as_found, records_c}
use Rattle.answers.specs.Answers.{opened_number, reply_number, written_number, listed_bytes, rewritten_number, told_number, found_number, rate_from}

pub as_opened_lem : (bytes lent : List ℕ) (k : ℕ) (a : Result (Unit {0}) Refusal) (w : List ℕ) → end a w ≡ open_of bytes lent → k ≡ opened_number a → worked k w ≡ open_c bytes lent
unfolding open_c
as_opened_lem bytes lent k a w e h = ap (λ (z : ℕ). worked z w) h ∙ ap as_opened e

pub as_stepped : (v : List ℕ) (i k : ℕ) (a : Result (Unit {0}) Refusal) (w : List ℕ) → left a w ≡ step_of v i → k ≡ reply_number a → worked k w ≡ step_c v i
unfolding step_c
as_stepped v i k a w e h = ap (λ (z : ℕ). worked z w) h ∙ ap as_replied e

module _ (v : List ℕ) (n k : ℕ) (a : Result (Unit {0}) Refusal) (w : List ℕ) (h : k ≡ reply_number a) where
  pub as_kept : left a w ≡ keep_of v n → worked k w ≡ keep_c v n
  unfolding keep_c
  as_kept e = ap (λ (z : ℕ). worked z w) h ∙ ap as_replied e

  pub as_back : left a w ≡ go_back_of v n → worked k w ≡ back_c v n
  unfolding back_c
  as_back e = ap (λ (z : ℕ). worked z w) h ∙ ap as_replied e

  pub as_dropped : left a w ≡ drop_of v n → worked k w ≡ drop_c v n
  unfolding drop_c
  as_dropped e = ap (λ (z : ℕ). worked z w) h ∙ ap as_replied e

pub as_laid : (w v : List ℕ) (k : ℕ) (a : Result (Unit {0}) Refusal) (u : List ℕ) → left a u ≡ lay_of w v → k ≡ reply_number a → worked k u ≡ lay_c w v
unfolding lay_c
as_laid w v k a u e h = ap (λ (z : ℕ). worked z u) h ∙ ap as_replied e

pub as_written_lem : (w u : List ℕ) (k : ℕ) (a : Result Written Refusal) (t : List ℕ) → paths.wrote a t ≡ write_of w u → k ≡ written_number a → wrote k t ≡ write_c w u
unfolding write_c
as_written_lem w u k a t e h = ap (λ (z : ℕ). wrote z t) h ∙ ap as_written e

pub as_finished_lem : (bytes lent : List ℕ) (k : ℕ) (u : List ℕ) (a : Result Written Refusal) (w t : List ℕ) → call.finished a w t ≡ finish_of bytes lent u → k ≡ written_number a → finished k w t ≡ finish_c bytes lent u
unfolding finish_c
as_finished_lem bytes lent k u a w t e h = ap (λ (z : ℕ). finished z w t) h ∙ ap as_finished e

-- ---- rewriting

pub as_rewritten_lem : (bytes : List ℕ) (n m k : ℕ) (a : Result ℕ Refusal) (w t : List ℕ) → rewrote a w t ≡ rewrite_of bytes n m → k ≡ rewritten_number a → finished k w t ≡ rewrite_c bytes n m
unfolding rewrite_c
as_rewritten_lem bytes n m k a w t e h = ap (λ (z : ℕ). finished z w t) h ∙ ap as_rewritten e

-- ---- mending

pub as_mended_lem : (bytes : List ℕ) (k : ℕ) (a : Result (Unit {0}) Refusal) (s : List ℕ) → mended a s ≡ mend_of bytes → k ≡ reply_number a → mended_job k s ≡ mend_c bytes
unfolding mend_c
as_mended_lem bytes k a s e h = ap (λ (z : ℕ). mended_job z s) h ∙ ap as_mended e

-- ---- a record's reason

pub told_here : (w : List ℕ) (i : ℕ) (a : Result Reason Refusal) → a ≡ reason_of w i → ToldWithin a
told_here w i a e = rw e (told_within w i)

pub as_told : (w : List ℕ) (i k : ℕ) (a : Result Reason Refusal) → a ≡ reason_of w i → k ≡ told_number a → k ≡ reason_c w i
unfolding reason_c
as_told w i k a e h = h ∙ ap told_number e

-- ---- the listing

module _ (bytes w t : List ℕ) (rate : ℕ) (s : List ℕ) (b : Bool) (d : b ≡ text_short (length w) (length s)) where
  pub too_short : b ≡ true → listing 0 w t s ≡ list_c bytes w t rate s
  unfolding list_c
  too_short h = sym (ap (λ (x : Bool). cond x (listing 0 w t s) (as_listed (list_job_of (rate_from rate) bytes w t s))) (sym d ∙ h))

  pub as_listed_lem : (k : ℕ) (q : Rate) (a : Option ℕ) (w' t' s' : List ℕ) → b ≡ false → q ≡ rate_from rate → listed_job (told a s') w' t' ≡ list_job_of q bytes w t s → k ≡ listed_bytes a
      → listing k w' t' s' ≡ list_c bytes w t rate s
  unfolding list_c
  as_listed_lem k q a w' t' s' h i e g =
      ap (λ (z : ℕ). listing z w' t' s') g ∙ ap as_listed (e ∙ ap (λ (p : Rate). list_job_of p bytes w t s) i)
      ∙ sym (ap (λ (x : Bool). cond x (listing 0 w t s) (as_listed (list_job_of (rate_from rate) bytes w t s))) (sym d ∙ h))

pub as_contained_lem : (bytes lent t : List ℕ) (m k : ℕ) (a : Result Written Refusal) (w u v : List ℕ) → contained a w u v ≡ contained_of bytes lent t m → k ≡ written_number a → pairs k w u v ≡ contained_c bytes lent t m
unfolding contained_c
as_contained_lem bytes lent t m k a w u v e h = ap (λ (z : ℕ). pairs z w u v) h ∙ ap as_contained e

-- ---- the records in a window

module _ {left top right bottom : ℤ} (h : SFits w32 left) (i : SFits w32 top) (j : SFits w32 right) (m : SFits w32 bottom) (w l l' : List ℕ) (a : Result ℕ Refusal)
    (e : found a l' ≡ records_in w (window (i32 left) (i32 top) (i32 right) (i32 bottom)) l) where
  as_window : found a l' ≡ records_in w (window left top right bottom) l
  as_window = e ∙ rw (to_z-of_z h, to_z-of_z i, to_z-of_z j, to_z-of_z m)

  pub found_here : FoundWithin a
  found_here = subst (λ (x : FoundIn). FoundWithin x.answer) (sym as_window) (found_within w (window left top right bottom) l)

  pub as_found_lem : (k : ℕ) → k ≡ found_number a → found_in k l' ≡ records_c w (window left top right bottom) l
  unfolding records_c
  as_found_lem k f = ap (λ (z : ℕ). found_in z l') f ∙ ap as_found as_window
