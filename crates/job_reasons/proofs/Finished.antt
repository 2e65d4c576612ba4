-- What finishing in one call leaves of an accepted job can be told: it passes the tests, every closed ring is done, and each reason is the rule that in fact ended the ring.
use Prim.Native.Nat.{ℕ, ◌<◌}
use mathlib.Core.Path.{◌≡◌, sym, ap, ◌∙◌, subst}
use mathlib.Core.List.{List}
use Rattle.store.specs.Words.{view}
use Rattle.store.specs.Sound.{recs}
use Rattle.handed.specs.Handed.{handed_of}
use Rattle.steps.specs.Live.{any_live}
use Rattle.std.specs.Prelude.{Result, Ok}
use Rattle.job.specs.declared.refusal.Refusal.{Refusal}
use Rattle.paths.specs.Wrote.{ok_paths}
use Rattle.paths.specs.declared.Written.{Written}
use Rattle.telling.specs.Telling.{reason_at, reason_of}
use Rattle.finishing.specs.InOneCall.{finished, finish_of}
use Rattle.order.proofs.Jobs.{of_job, accepted, words_are, all_over}
use Rattle.ended.proofs.Opened.{stages}
use Rattle.ended.proofs.Told.{tells}
use Rattle.ended.proofs.Telling.{call_tells}
use Rattle.job_reasons.specs.Needs.{Tellable, TellableAt}
use Rattle.job_reasons.specs.Reasons.{reasons_as, reasons_of}
use Rattle.job_reasons.specs.InFact.{left, InFact}

-- asked for one of its records, such a work space tells it
pub call_told : (w : List ℕ) (i : ℕ) → TellableAt w i → reason_of w i ≡ Ok (reason_at (view w) i)
call_told w i h = call_tells w i h.work.tested h.known h.work.done

module _ (bytes lent t w' t' : List ℕ) (c o : ℕ) (e : finished (ok_paths c o) w' t' ≡ finish_of bytes lent t) where
  pub tellable : Tellable w'
  tellable =
      let a = accepted bytes lent t w' t' c o e in
      record {
        tested = ap handed_of (words_are bytes lent t w' t' c o e) ∙ ((of_job bytes lent a.from a.opens).holds.after_every_list a.rising.steps).tests_pass;
        done = ap (λ (v : List ℕ). any_live (view v)) (words_are bytes lent t w' t' c o e) ∙ all_over bytes lent t w' t' c o e;
      }

-- of what finishing in one call leaves where it gives paths
module _ (bytes lent t : List ℕ) (c o : ℕ) (h : (finish_of bytes lent t).answer ≡ ok_paths c o) where
  given : finished (ok_paths c o) (left bytes lent t) (finish_of bytes lent t).tray ≡ finish_of bytes lent t
  given = ap (λ (r : Result Written Refusal). finished r (left bytes lent t) (finish_of bytes lent t).tray) (sym h)

  pub left_tellable : Tellable (left bytes lent t)
  left_tellable = tellable bytes lent t (left bytes lent t) (finish_of bytes lent t).tray c o given

  -- THE THEOREM: what each line tells is what the call tells, and what in fact ended the ring
  pub in_fact : InFact bytes lent t
  unfolding reasons_of
  in_fact =
      let a = accepted bytes lent t (left bytes lent t) (finish_of bytes lent t).tray c o given in
      let e = words_are bytes lent t (left bytes lent t) (finish_of bytes lent t).tray c o given in
      record {
        text = ap (λ (r : Result Written Refusal). reasons_as r (left bytes lent t)) h;
        calls = λ i l. call_told (left bytes lent t) i (record { work = left_tellable; known = l });
        opened = a.from;
        stages = stages bytes lent a.from a.opens;
        steps = a.rising.steps;
        words = e;
        ends = λ i l. tells bytes lent a.from a.opens a.rising.steps i (subst (λ (v : List ℕ). i < recs (view v)) e l) (all_over bytes lent t (left bytes lent t) (finish_of bytes lent t).tray c o given);
      }
