-- Steps on stores and on words, one after the other.
use Rattle.std.specs.Prelude.{ℕ, List, [], ◌∷◌}
use Rattle.lone.specs.Lone.{Geo}
use Rattle.lone.specs.Forest.{Answer, ok, full, out_of_turn}
use Rattle.store.specs.Words.{Store, view}
use Rattle.acts.specs.Apply.{Coding}
use Rattle.acts.specs.Codes.{after}
use Rattle.acts.specs.Step.{Outcome, act_at, answer_s, outcome, step_w}

module _ {P : Type 0} (G : Geo P) (f : Coding P) where
  abbrev pub step_answered : Store → ℕ → Answer → Store
  step_answered s i ok = after f s i (act_at G f s i)
  step_answered s i full = s
  step_answered s i out_of_turn = s

  unfoldable pub step_s : Store → ℕ → Store
  step_s s i = step_answered s i (answer_s G f s i)

  abbrev pub run_s : Store → List ℕ → Store
  run_s s [] = s
  run_s s (i ∷ is) = run_s (step_s s i) is

  abbrev pub run_w : List ℕ → List ℕ → List ℕ
  run_w w [] = w
  run_w w (i ∷ is) = run_w (step_w G f w i) is

  -- its answer and the words it leaves
  unfoldable pub step_words : List ℕ → ℕ → Outcome
  step_words w i = outcome (answer_s G f (view w) i) (step_w G f w i)
