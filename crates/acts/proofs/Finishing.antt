-- Finishing on words: each step that is carried out keeps what finishing needs and lowers the measure; so there is fuel enough.
use Prim.Native.Nat.{ℕ, zero, suc, ◌<◌}
use mathlib.Core.Path.{◌≡◌, refl, ap, ◌∙◌, sym, subst}
use mathlib.Core.Logic.{◌⊎◌, inl, inr}
use mathlib.Core.Bool.{true, false, true≢false}
use mathlib.Core.List.{List}
use mathlib.Core.Option.{Option}
use lib.ListN.{length}
use Rattle.rings.specs.Progress.{Ring}
use Rattle.lone.specs.Act.{Act, stay, discard, drop_point, move_on, to_first, double, cut}
use Rattle.lone.specs.Lone.{Geo}
use Rattle.lone.specs.Forest.{Answer, ok, full, out_of_turn, is_ok, Forest, State, closed_ring, at, answer, step_state, step_forest}
use Rattle.lone.specs.Order.{machine}
use Rattle.lone.specs.Rounds.{enough}
use Rattle.lone.proofs.Stepping.{at_closed, step_here, Accepted, Refused}
use Rattle.lone.proofs.Stepping as lone
use Rattle.lone.proofs.FinishingRings.{left, left_of, kept, falls, bound}
use Rattle.store.specs.Field.{ct, SETTINGS}
use Rattle.store.specs.Words.{Store, view}
use Rattle.acts.specs.Apply.{Coding}
use Rattle.acts.specs.Codes.{after}
use Rattle.acts.specs.Laws.{Laws}
use Rattle.acts.specs.Rep.{RepW}
use Rattle.acts.specs.Step.{Outcome, outcome, act_at, answer_s, step_w}
use Rattle.acts.specs.Run.{step_answered, step_s}
use Rattle.acts.specs.Finish.{steps_by_w, finish_record}
use Rattle.acts.specs.Finishable.{MayFinish, words_left}
use Rattle.acts.proofs.Representing.{here}
use Rattle.acts.proofs.Stepping.{answer_is, view_step, step_w_is, length_step}

-- no act writes the settings
pub settings_after : {P : Type 0} (f : Coding P) (s : Store) (i : ℕ) (act : Act P) → after f s i act (ct SETTINGS) 0 ≡ s (ct SETTINGS) 0
settings_after f s i stay = refl
settings_after f s i (discard y) = refl
settings_after f s i drop_point = refl
settings_after f s i (move_on d) = refl
settings_after f s i (to_first d) = refl
settings_after f s i (double v d) = refl
settings_after f s i (cut v true true d) = refl
settings_after f s i (cut v true false d) = refl
settings_after f s i (cut v false true d) = refl
settings_after f s i (cut v false false d) = refl

-- the words that are left
abbrev pub words_of : Outcome → List ℕ
words_of (outcome a w) = w

module _ {P : Type 0} (G : Geo P) (f : Coding P) (Λ : Laws G f) where
  pub settings_kept : (w : List ℕ) (i : ℕ) → MayFinish G f w → view (step_w G f w i) (ct SETTINGS) 0 ≡ view w (ct SETTINGS) 0
  unfolding step_s
  settings_kept w i v = ap (λ (s : Store). s (ct SETTINGS) 0) (view_step G f Λ w i v.rep.long v.rep.rep.in_step.sound) ∙ by (answer_s G f (view w) i)
    where
      by : (a : Answer) → step_answered G f (view w) i a (ct SETTINGS) 0 ≡ view w (ct SETTINGS) 0
      by ok = settings_after f (view w) i (act_at G f (view w) i)
      by full = refl
      by out_of_turn = refl

  pub finishes_step : (w : List ℕ) (i : ℕ) → MayFinish G f w → MayFinish G f (step_w G f w i)
  finishes_step w i v = record { forest = step_forest (machine G) 2048 512 v.forest i; rep = step_w_is G f Λ w v.forest v.rep i; held = kept G 2048 512 v.forest i v.held }

  left_is : (w : List ℕ) (F : Forest (Ring P) (List P)) (i : ℕ) (q : Option ℕ) (L : State (Ring P)) → RepW f w F → at F.entries i ≡ closed_ring q L → left G 2048 512 F i ≡ words_left G f w i
  unfolding left left_of words_left
  left_is w F i q L r e = rw (e, r.rep.in_step.points_are, (here f.of (view w) F r.rep.in_step i q L e).now_is)

  pub words_fall : (w : List ℕ) (i : ℕ) → MayFinish G f w → answer_s G f (view w) i ≡ ok → words_left G f (step_w G f w i) i < words_left G f w i
  words_fall w i v e = go (lone.view (machine G) 2048 512 v.forest i)
    where
      says : answer (machine G) 2048 512 v.forest i ≡ ok
      says = sym (answer_is G f (view w) v.forest v.rep.rep.in_step i) ∙ e

      go : Accepted (machine G) 2048 512 v.forest i ⊎ Refused (machine G) 2048 512 v.forest i → words_left G f (step_w G f w i) i < words_left G f w i
      go (inl g) =
          let there : at (step_forest (machine G) 2048 512 v.forest i).entries i ≡ closed_ring g.who (step_state (machine G) g.state) = rw g.becomes (step_here (machine G) v.forest.entries i g.who g.state (at_closed v.forest.entries i g.here)) in
          rw (← left_is w v.forest i g.who g.state v.rep g.here, ← left_is (step_w G f w i) (step_forest (machine G) 2048 512 v.forest i) i g.who (step_state (machine G) g.state) (step_w_is G f Λ w v.forest v.rep i) there)
          (falls G 2048 512 v.forest i v.held says)
      go (inr z) = absurd (true≢false (sym (ap is_ok says) ∙ z.says))

  pub words_bound : (w : List ℕ) (i : ℕ) → MayFinish G f w → answer_s G f (view w) i ≡ ok → words_left G f w i < enough 2048
  words_bound w i v e = go (lone.view (machine G) 2048 512 v.forest i)
    where
      says : answer (machine G) 2048 512 v.forest i ≡ ok
      says = sym (answer_is G f (view w) v.forest v.rep.rep.in_step i) ∙ e

      go : Accepted (machine G) 2048 512 v.forest i ⊎ Refused (machine G) 2048 512 v.forest i → words_left G f w i < enough 2048
      go (inl g) = subst (λ (n : ℕ). n < enough 2048) (left_is w v.forest i g.who g.state v.rep g.here) (bound G 2048 512 v.forest i v.held)
      go (inr z) = absurd (true≢false (sym (ap is_ok says) ∙ z.says))

  -- ---- a record's steps in a row
  pub finishes_steps : (n : ℕ) (a : Answer) (w : List ℕ) (i : ℕ) → MayFinish G f w → MayFinish G f (words_of (steps_by_w G f n a w i))
  finishes_steps zero a w i v = v
  finishes_steps (suc n) ok w i v = finishes_steps n (answer_s G f (view (step_w G f w i)) i) (step_w G f w i) i (finishes_step w i v)
  finishes_steps (suc n) full w i v = v
  finishes_steps (suc n) out_of_turn w i v = v

  settings_steps : (n : ℕ) (a : Answer) (w : List ℕ) (i : ℕ) → MayFinish G f w → view (words_of (steps_by_w G f n a w i)) (ct SETTINGS) 0 ≡ view w (ct SETTINGS) 0
  settings_steps zero a w i v = refl
  settings_steps (suc n) ok w i v = settings_steps n (answer_s G f (view (step_w G f w i)) i) (step_w G f w i) i (finishes_step w i v) ∙ settings_kept w i v
  settings_steps (suc n) full w i v = refl
  settings_steps (suc n) out_of_turn w i v = refl

  length_steps : (n : ℕ) (a : Answer) (w : List ℕ) (i : ℕ) → length (words_of (steps_by_w G f n a w i)) ≡ length w
  length_steps zero a w i = refl
  length_steps (suc n) ok w i = length_steps n (answer_s G f (view (step_w G f w i)) i) (step_w G f w i) i ∙ length_step G f w i
  length_steps (suc n) full w i = refl
  length_steps (suc n) out_of_turn w i = refl

  pub length_record : (w : List ℕ) (i : ℕ) (a : Answer) (w' : List ℕ) → outcome a w' ≡ finish_record G f w i → length w' ≡ length w
  unfolding finish_record
  length_record w i a w' e = ap (λ (o : Outcome). length (words_of o)) e ∙ length_steps (enough 2048) (answer_s G f (view w) i) w i

  pub finishes_record : (w : List ℕ) (i : ℕ) (a : Answer) (w' : List ℕ) → MayFinish G f w → outcome a w' ≡ finish_record G f w i → MayFinish G f w'
  unfolding finish_record
  finishes_record w i a w' v e = subst (λ (o : Outcome). MayFinish G f (words_of o)) (sym e) (finishes_steps (enough 2048) (answer_s G f (view w) i) w i v)

  pub settings_record : (w : List ℕ) (i : ℕ) (a : Answer) (w' : List ℕ) → MayFinish G f w → outcome a w' ≡ finish_record G f w i → view w' (ct SETTINGS) 0 ≡ view w (ct SETTINGS) 0
  unfolding finish_record
  settings_record w i a w' v e = ap (λ (o : Outcome). view (words_of o) (ct SETTINGS) 0) e ∙ settings_steps (enough 2048) (answer_s G f (view w) i) w i v
