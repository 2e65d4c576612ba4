-- What the needs of the entry points' code come to.
use Prim.Native.Nat.{ℕ}
use mathlib.Core.Path.{◌≡◌, refl, ap, ◌∙◌, sym}
use mathlib.Core.Bool.{Bool, true, false}
use mathlib.Core.List.{List}
use Rattle.std.specs.Prelude.{Result, Ok, Err}
use Rattle.job.specs.declared.refusal.Refusal.{Refusal}
use Rattle.job.specs.declared.refusal.Refusal.TheVariants.{OutOfTurn}
use Rattle.store.specs.Words.{view}
use Rattle.store.specs.Good.{SoundWords}
use Rattle.handed.specs.Handed.{handed_of, Usable}
use Rattle.handed.proofs.Handing.{handed_sound, handed_usable}
use Rattle.acts.specs.Step.{outcome, answer_s}
use Rattle.turns.specs.Form.{raised, geometry_of}
use Rattle.std.specs.Prelude.{⊤}
use Rattle.paths.specs.declared.Written.{Written}
use Rattle.steps.specs.declared.StepError.{StepError}
use Rattle.steps.specs.declared.StepError.TheVariants as step
use Rattle.steps.specs.Code.{error_is, answer_is, refusal_is}
use Rattle.steps.specs.Live.{any_live}
use Rattle.paths.specs.Wrote.{wrote, build_paths64}
use Rattle.audit.specs.Left.{left}
use Rattle.boxed_steps.specs.Leaves.{step_leaves, boxed_step}
use Rattle.finishing.specs.Step.{stepped_as, step_by, step_of}
use Rattle.finishing.specs.Write.{write_by, write_of}
use Rattle.finishing.proofs.Entering.{handed_step, handed_write}

-- ---- what the calls ask

pub tested : (w : List ℕ) (v : Result (Unit {0}) Refusal) → v ≡ handed_of w → v ≡ Ok tt → SoundWords w
tested w v e p = handed_sound w (sym e ∙ p)

pub usable : (w : List ℕ) (v : Result (Unit {0}) Refusal) → v ≡ handed_of w → v ≡ Ok tt → Usable w
usable w v e p = handed_usable w (sym e ∙ p)

-- ---- a step

is_refused : (a : Result ⊤ StepError) (e : StepError) (x : Refusal) → a ≡ Err e → x ≡ refusal_is e → Err x ≡ stepped_as (answer_is a)
is_refused a e x h k = ap Err k ∙ go e ∙ sym (ap (λ (b : Result ⊤ StepError). stepped_as (answer_is b)) h)
  where
    go : (e : StepError) → Err (refusal_is e) ≡ stepped_as (error_is e)
    go step.Full = refl
    go step.OutOfTurn = refl

module _ (w : List ℕ) (i : ℕ) where
  pub step_refused : (v : Result (Unit {0}) Refusal) (x : Refusal) → v ≡ handed_of w → v ≡ Err x → left (Err x) w ≡ step_of w i
  step_refused v x e p = sym (handed_step w i (Err x) (sym e ∙ p))

  pub step_passed : (v : Result (Unit {0}) Refusal) (r : Result (Unit {0}) Refusal) (w' : List ℕ) → v ≡ handed_of w → v ≡ Ok tt → left r w' ≡ step_by (Ok tt) w i → left r w' ≡ step_of w i
  step_passed v r w' e p h = h ∙ sym (handed_step w i (Ok tt) (sym e ∙ p))

  -- the answer by the code's name
  step_said : (a : Result ⊤ StepError) (r : Result (Unit {0}) Refusal) (w' : List ℕ) → outcome (answer_is a) w' ≡ boxed_step w i → r ≡ stepped_as (answer_is a) → left r w' ≡ step_by (Ok tt) w i
  unfolding boxed_step
  step_said a r w' h e = ap (λ (x : Result (Unit {0}) Refusal). left x w') e ∙ said
    where
      said : left (stepped_as (answer_is a)) w' ≡ step_by (Ok tt) w i
      said =
          let x : answer_is a ≡ answer_s (geometry_of (view w)) raised (view w) i = cc in
          let y : w' ≡ step_leaves (answer_s (geometry_of (view w)) raised (view w) i) w i = cc in
          rw (x, y)

  pub step_done : (a : Result ⊤ StepError) (y : ⊤) (w' : List ℕ) → outcome (answer_is a) w' ≡ boxed_step w i → a ≡ Ok y → left (Ok tt) w' ≡ step_by (Ok tt) w i
  step_done a y w' h k = step_said a (Ok tt) w' h (sym (ap (λ (b : Result ⊤ StepError). stepped_as (answer_is b)) k))

  pub step_stopped : (a : Result ⊤ StepError) (e : StepError) (x : Refusal) (w' : List ℕ) → outcome (answer_is a) w' ≡ boxed_step w i → a ≡ Err e → x ≡ refusal_is e → left (Err x) w' ≡ step_by (Ok tt) w i
  step_stopped a e x w' h k l = step_said a (Err x) w' h (is_refused a e x k l)

-- ---- writing out

module _ (w t : List ℕ) where
  pub write_refused : (v : Result (Unit {0}) Refusal) (x : Refusal) → v ≡ handed_of w → v ≡ Err x → wrote (Err x) t ≡ write_of w t
  write_refused v x e p = sym (handed_write w t (Err x) (sym e ∙ p))

  pub write_passed : (v : Result (Unit {0}) Refusal) (r : Result Written Refusal) (t' : List ℕ) → v ≡ handed_of w → v ≡ (Ok tt) → wrote r t' ≡ write_by (Ok tt) w t → wrote r t' ≡ write_of w t
  write_passed v r t' e p h = h ∙ sym (handed_write w t (Ok tt) (sym e ∙ p))

  module _ (b : Bool) (e : b ≡ any_live (view w)) where
    pub write_early : b ≡ true → wrote (Err OutOfTurn) t ≡ write_by (Ok tt) w t
    write_early h = rw (sym e ∙ h)

    pub write_done : (r : Result Written Refusal) (t' : List ℕ) → b ≡ false → wrote r t' ≡ build_paths64 (view w) t → wrote r t' ≡ write_by (Ok tt) w t
    write_done r t' h g = rw (sym e ∙ h) g
