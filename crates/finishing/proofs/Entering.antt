-- A call on a work space that passes; and a refused step leaves every word.
use Prim.Native.Nat.{ℕ}
use mathlib.Core.Path.{◌≡◌, refl, ap}
use mathlib.Core.List.{List}
use native.Mathlib.Omega.{arith}
use Rattle.std.specs.Prelude.{Result, Ok, Err}
use Rattle.job.specs.declared.refusal.Refusal.{Refusal}
use Rattle.lone.specs.Forest.{Answer, ok, full, out_of_turn}
use Rattle.store.specs.Words.{view}
use Rattle.handed.specs.Handed.{handed_of}
use Rattle.acts.specs.Step.{answer_s}
use Rattle.turns.specs.Form.{raised, geometry_of}
use Rattle.boxed_steps.specs.Leaves.{step_leaves}
use Rattle.finishing.specs.Step.{stepped_as, step_by, step_of}
use Rattle.finishing.specs.Write.{write_by, write_of}

pub handed_step : (w : List ℕ) (i : ℕ) (v : Result (Unit {0}) Refusal) → handed_of w ≡ v → step_of w i ≡ step_by v w i
unfolding step_of
handed_step w i v e = ap (λ (u : Result (Unit {0}) Refusal). step_by u w i) e

pub handed_write : (w t : List ℕ) (v : Result (Unit {0}) Refusal) → handed_of w ≡ v → write_of w t ≡ write_by v w t
unfolding write_of
handed_write w t v e = ap (λ (u : Result (Unit {0}) Refusal). write_by u w t) e

-- refused with 12 or with 10, a step on words leaves them
refused_words : (w : List ℕ) (i : ℕ) (x : Refusal) (a : Answer) → stepped_as a ≡ Err x → step_leaves a w i ≡ w
refused_words w i x ok h = let z : ◌≡◌ {A = ℕ} 0 1 = cc in absurd (omega arith)
refused_words w i x full h = refl
refused_words w i x out_of_turn h = refl

-- a refused step leaves every word, on every input
pub refused_leaves : (w : List ℕ) (i : ℕ) (x : Refusal) → (step_of w i).answer ≡ Err x → (step_of w i).words ≡ w
unfolding step_of
refused_leaves w i x e = go (handed_of w) e
  where
    go : (v : Result (Unit {0}) Refusal) → (step_by v w i).answer ≡ Err x → (step_by v w i).words ≡ w
    go (Err r) h = refl
    go (Ok _) h = refused_words w i x (answer_s (geometry_of (view w)) raised (view w) i) h
