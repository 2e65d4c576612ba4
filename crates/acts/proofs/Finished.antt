-- Finishing on words is finishing the forest: where all rings are done, the words are in step with the finished forest.
use Prim.Native.Nat.{ℕ, zero, suc}
use mathlib.Core.Path.{◌≡◌, subst}
use mathlib.Core.List.{List}
use native.Mathlib.Omega.{arith}
use Rattle.rings.specs.Progress.{Ring}
use Rattle.lone.specs.Lone.{Geo}
use Rattle.lone.specs.Forest.{Answer, ok, full, out_of_turn, Forest, answer, step_forest}
use Rattle.lone.specs.Order.{machine}
use Rattle.lone.specs.Finish.{steps_by, steps_on, finish_from, finish_forest}
use Rattle.lone.specs.Rounds.{enough}
use Rattle.store.specs.Words.{view}
use Rattle.acts.specs.Apply.{Coding}
use Rattle.acts.specs.Laws.{Laws}
use Rattle.acts.specs.Rep.{RepW}
use Rattle.acts.specs.Step.{Outcome, outcome, answer_s, step_w}
use Rattle.acts.specs.Finish.{rings_done, and_then, steps_by_w, finish_record, finish_from_w, finish_w}
use Rattle.acts.proofs.Stepping.{answer_is, step_w_is}
use Rattle.acts.proofs.Finishing.{words_of}

module _ {P : Type 0} (G : Geo P) (f : Coding P) (Λ : Laws G f) where
  steps_rep : (n : ℕ) (a : Answer) (w : List ℕ) (F : Forest (Ring P) (List P)) (i : ℕ) → RepW f w F → RepW f (words_of (steps_by_w G f n a w i)) (steps_by (machine G) 2048 512 n a F i)
  steps_rep zero a w F i r = r
  steps_rep (suc n) ok w F i r =
      let r' : RepW f (step_w G f w i) (step_forest (machine G) 2048 512 F i) = step_w_is G f Λ w F r i in
      let e : answer_s G f (view (step_w G f w i)) i ≡ answer (machine G) 2048 512 (step_forest (machine G) 2048 512 F i) i = answer_is G f (view (step_w G f w i)) (step_forest (machine G) 2048 512 F i) r'.rep.in_step i in
      subst (λ (b : Answer). RepW f (words_of (steps_by_w G f n (answer_s G f (view (step_w G f w i)) i) (step_w G f w i) i)) (steps_by (machine G) 2048 512 n b (step_forest (machine G) 2048 512 F i) i)) e
      (steps_rep n (answer_s G f (view (step_w G f w i)) i) (step_w G f w i) (step_forest (machine G) 2048 512 F i) i r')
  steps_rep (suc n) full w F i r = r
  steps_rep (suc n) out_of_turn w F i r = r

  record_rep : (w : List ℕ) (F : Forest (Ring P) (List P)) (i : ℕ) → RepW f w F → RepW f (words_of (finish_record G f w i)) (steps_on (machine G) 2048 512 (enough 2048) F i)
  unfolding finish_record steps_on
  record_rep w F i r =
      subst (λ (b : Answer). RepW f (words_of (steps_by_w G f (enough 2048) (answer_s G f (view w) i) w i)) (steps_by (machine G) 2048 512 (enough 2048) b F i)) (answer_is G f (view w) F r.rep.in_step i)
      (steps_rep (enough 2048) (answer_s G f (view w) i) w F i r)

  from_rep : (m : ℕ) (w : List ℕ) (F : Forest (Ring P) (List P)) (i : ℕ) (w' : List ℕ) → RepW f w F → finish_from_w G f m w i ≡ rings_done w' → RepW f w' (finish_from (machine G) 2048 512 (enough 2048) m F i)
  from_rep zero w F i w' r e = let z : w ≡ w' = cc in subst (λ (u : List ℕ). RepW f u F) z r
  from_rep (suc m) w F i w' r e = go (λ u q k. from_rep m u (steps_on (machine G) 2048 512 (enough 2048) F i) (suc i) w' q k) (finish_record G f w i) (record_rep w F i r) e
    where
      go : ((u : List ℕ) → RepW f u (steps_on (machine G) 2048 512 (enough 2048) F i) → finish_from_w G f m u (suc i) ≡ rings_done w' → RepW f w' (finish_from (machine G) 2048 512 (enough 2048) m (steps_on (machine G) 2048 512 (enough 2048) F i) (suc i)))
          → (o : Outcome) → RepW f (words_of o) (steps_on (machine G) 2048 512 (enough 2048) F i) → and_then o (λ (u : List ℕ). finish_from_w G f m u (suc i)) ≡ rings_done w'
          → RepW f w' (finish_from (machine G) 2048 512 (enough 2048) m (steps_on (machine G) 2048 512 (enough 2048) F i) (suc i))
      go k (outcome ok u) q e = k u q e
      go k (outcome full u) q e = let z : ◌≡◌ {A = ℕ} 0 1 = cc in absurd (omega arith)
      go k (outcome out_of_turn u) q e = k u q e

  pub finish_done : (w : List ℕ) (F : Forest (Ring P) (List P)) (w' : List ℕ) → RepW f w F → finish_w G f w ≡ rings_done w' → RepW f w' (finish_forest (machine G) 2048 512 F)
  unfolding finish_w finish_forest
  finish_done w F w' r e = from_rep 512 w F 0 w' r e
