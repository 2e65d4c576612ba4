-- A step as a call, on every work space: refused it leaves the words; carried out, no box passes the one before.
use Prim.Native.Nat.{ℕ, ◌≤◌, ◌<◌}
use mathlib.Core.Path.{◌≡◌, refl, sym, ap, ◌∙◌, subst}
use mathlib.Core.List.{List, [], ◌∷◌, ◌++◌}
use native.Mathlib.Omega.{arith}
use lib.ListN.{length}
use Rattle.std.specs.Prelude.{Result, Ok, Err}
use Rattle.job.specs.Limits as limit
use Rattle.job.specs.declared.refusal.Refusal.{Refusal}
use Rattle.lone.specs.Forest.{Answer, ok, full, out_of_turn}
use Rattle.store.specs.Words.{Store, view}
use Rattle.store.specs.Sound.{recs}
use Rattle.store.specs.Good.{SoundWords}
use Rattle.store.specs.Boxes.{boxed_at}
use Rattle.store.specs.Value.{preserve_collinear}
use Rattle.bounds.proofs.Beside.{view_boxed}
use Rattle.handed.specs.Handed.{handed_of}
use Rattle.handed.proofs.Handing.{handed_sound}
use Rattle.acts.specs.Step.{answer_s, step_w}
use Rattle.acts.proofs.Stepping.{step_w_sound}
use Rattle.turns.specs.Form.{raised, geometry_of}
use Rattle.turns.proofs.Ready.{laws}
use Rattle.boxes.specs.Beside.{Shrinks}
use Rattle.boxes.proofs.Beside.{shrinks_not}
use Rattle.boxes.proofs.OnWords.{words_shrink}
use Rattle.boxed_steps.specs.Leaves.{step_leaves}
use Rattle.finishing.specs.Step.{step_by, step_of}
use Rattle.finishing.specs.Run.{run_of}

-- what a step keeps of the stores before and after it
module _ (Q : Store → Store → Type 0) (none : (s : Store) → Q s s) (w : List ℕ) (i : ℕ) (carried : SoundWords w → Q (view w) (view (step_w (geometry_of (view w)) raised w i))) where
  by_answer : SoundWords w → (a : Answer) → Q (view w) (view (step_leaves a w i))
  by_answer h ok =
      subst (Q (view w)) (sym (view_boxed (boxed_at (step_w (geometry_of (view w)) raised w i) i) (recs (view w)) ∙ view_boxed (step_w (geometry_of (view w)) raised w i) i)) (carried h)
  by_answer h full = none (view w)
  by_answer h out_of_turn = none (view w)

  step_keeps : Q (view w) (view (step_of w i).words)
  unfolding step_of
  step_keeps = go (handed_of w) refl
    where
      go : (v : Result (Unit {0}) Refusal) → handed_of w ≡ v → Q (view w) (view (step_by v w i).words)
      go (Err r) e = none (view w)
      go (Ok _) e = by_answer (handed_sound w e) (answer_s (geometry_of (view w)) raised (view w) i)

module _ (w : List ℕ) (i : ℕ) where
  pub shrinks : Shrinks (view w) (view (step_of w i).words)
  shrinks = step_keeps Shrinks shrinks_not w i (λ h. words_shrink w h.long h.sound i)

  pub step_few : recs (view w) ≤ limit.RECORDS → recs (view (step_of w i).words) ≤ limit.RECORDS
  step_few =
      step_keeps (λ (s s' : Store). recs s ≤ limit.RECORDS → recs s' ≤ limit.RECORDS) (λ s h. h) w i
      (λ h n. (step_w_sound (geometry_of (view w)) raised (laws (preserve_collinear (view w))) w i h.long h.sound).few_records)

pub run_few : (is : List ℕ) (w : List ℕ) → recs (view w) ≤ limit.RECORDS → recs (view (run_of w is)) ≤ limit.RECORDS
run_few [] w h = h
run_few (i ∷ is) w h = run_few is (step_of w i).words (step_few w i h)

pub run_both : (is js w : List ℕ) → run_of w (is ++ js) ≡ run_of (run_of w is) js
run_both [] js w = refl
run_both (i ∷ is) js w = run_both is js (step_of w i).words
