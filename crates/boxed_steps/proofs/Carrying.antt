-- What the needs of the code come to: a ring whose box cannot have changed is not walked again.
use Prim.Native.Nat.{ℕ, ◌≤◌}
use mathlib.Core.Path.{◌≡◌, refl, sym, ap, ◌∙◌, subst}
use mathlib.Core.Bool.{Bool, true, false}
use mathlib.Core.List.{List}
use native.Mathlib.Omega.{arith}
use lib.ListN.{length}
use Rattle.job.specs.Limits as limit
use Rattle.lone.specs.Forest.{Answer, ok, out_of_turn}
use Rattle.store.specs.Field.{BLOCK}
use Rattle.store.specs.Words.{Store, view}
use Rattle.store.specs.Named.{records_of}
use Rattle.store.specs.Sound.{recs}
use Rattle.store.specs.Value.{preserve_collinear}
use Rattle.store.specs.Boxes.{sides_at, boxed_at}
use Rattle.bounds.proofs.Beside.{view_boxed, length_boxed}
use Rattle.handed.specs.Handed.{Usable}
use Rattle.acts.specs.Step.{outcome, live, answer_s, step_by_w, step_w}
use Rattle.acts.specs.Run.{step_words}
use Rattle.acts.proofs.Stepping.{able, length_step, step_w_sound}
use Rattle.turns.specs.Form.{raised, geometry_of}
use Rattle.turns.specs.Reads.{Steps}
use Rattle.turns.proofs.Ready.{laws}
use Rattle.std.specs.Prelude.{Result, Ok, Err, ⊤}
use Rattle.steps.specs.declared.StepError.{StepError}
use Rattle.steps.specs.declared.StepError.TheVariants.{Full, OutOfTurn}
use Rattle.steps.specs.Code.{error_is, answer_is}
use Rattle.steps.specs.Foretold.{Foretold}
use Rattle.steps.proofs.Steps as step
use Rattle.boxes.proofs.AtHand.{at_hand}
use Rattle.boxes.proofs.OnWords.{not_walked}
use Rattle.boxed_steps.specs.Leaves.{step_leaves, boxed_step}
use Rattle.boxed_steps.specs.Needs.{Unchanged, Boxable}

-- ---- boxes

pub there_already : (w : List ℕ) (i : ℕ) (changes : Bool) → Unchanged w i changes → changes ≡ false → w ≡ boxed_at w i
there_already w i changes u h = sym (u.same h)

module _ (w u : List ℕ) (i : ℕ) (b : Boxable w) (e : u ≡ boxed_at w i) where
  pub boxed_long : BLOCK ≤ length u
  boxed_long = omega (arith, b.long, ap length e, length_boxed w i)

  pub boxed_few : records_of u ≤ limit.RECORDS
  boxed_few = subst (λ (s : Store). recs s ≤ limit.RECORDS) (sym (ap view e ∙ view_boxed w i)) b.few

pub both_boxed : (w u v : List ℕ) (i n : ℕ) → u ≡ boxed_at w i → v ≡ boxed_at u n → v ≡ boxed_at (boxed_at w i) n
both_boxed w u v i n e f = f ∙ ap (λ (x : List ℕ). boxed_at x n) e

-- ---- a step on an unfinished closed ring

module _ (w : List ℕ) (i : ℕ) (s : Steps w i) (a : Result Bool StepError) (w₁ : List ℕ) (h : outcome (answer_is a) w₁ ≡ step_words (geometry_of (view w)) raised w i) where
  says : answer_is a ≡ answer_s (geometry_of (view w)) raised (view w) i
  unfolding step_words
  says = cc

  words : w₁ ≡ step_w (geometry_of (view w)) raised w i
  unfolding step_words
  words = cc

  pub boxable : Boxable w₁
  boxable =
      subst Boxable (sym words)
      (record {
        long = omega (arith, s.long, length_step (geometry_of (view w)) raised w i);
        few = (step_w_sound (geometry_of (view w)) raised (laws (preserve_collinear (view w))) w i s.long s.sound).few_records;
      })

  pub unchanged : (changes : Bool) → Usable w → Foretold w i a → a ≡ Ok changes → Unchanged w₁ i changes
  unchanged changes u t e =
      let k : answer_s (geometry_of (view w)) raised (view w) i ≡ ok = sym says ∙ ap (λ (y : Result Bool StepError). answer_is y) e in
      let b = u.boxed i s.closed.known in
      record {
        same = λ f.
            subst (λ (v : List ℕ). boxed_at v i ≡ v) (sym words)
            (not_walked w s.long s.sound i k b
            (at_hand (sides_at w i) (view w) i s.sound (able (geometry_of (view w)) raised (view w) i k) (b.box s.closed.ringed) ∙ sym (t.told changes e) ∙ f));
      }

  by_answer : (x : Answer) (w₂ : List ℕ) → answer_is a ≡ x → w₂ ≡ step_leaves x w i → outcome x w₂ ≡ boxed_step w i
  unfolding boxed_step
  by_answer x w₂ e f = ap (outcome x) f ∙ ap (λ (y : Answer). outcome y (step_leaves y w i)) (sym e ∙ says)

  pub done : (changes : Bool) (n : ℕ) (w₂ : List ℕ) → a ≡ Ok changes → n ≡ records_of w → w₂ ≡ boxed_at (boxed_at w₁ i) n → outcome ok w₂ ≡ boxed_step w i
  done changes n w₂ e g f = by_answer ok w₂ (ap (λ (y : Result Bool StepError). answer_is y) e) (f ∙ ap (boxed_at (boxed_at w₁ i)) g ∙ ap (λ (v : List ℕ). boxed_at (boxed_at v i) (recs (view w))) words)

  -- a refused one left the words
  unmoved : (x : Answer) → answer_is a ≡ x → step_by_w (geometry_of (view w)) raised w i x ≡ w → w₁ ≡ w
  unfolding step_w
  unmoved x e g = words ∙ ap (step_by_w (geometry_of (view w)) raised w i) (sym says ∙ e) ∙ g

  pub refused : (b : Result ⊤ StepError) (x : StepError) → a ≡ Err x → b ≡ Err x → outcome (answer_is b) w₁ ≡ boxed_step w i
  refused b x e f =
      let k : answer_is a ≡ error_is x = ap (λ (y : Result Bool StepError). answer_is y) e in
      ap (λ (y : Result ⊤ StepError). outcome (answer_is y) w₁) f ∙ by_answer (error_is x) w₁ k (unmoved (error_is x) k (kept x) ∙ sym (left x))
    where
      kept : (x : StepError) → step_by_w (geometry_of (view w)) raised w i (error_is x) ≡ w
      kept Full = refl
      kept OutOfTurn = refl

      left : (x : StepError) → step_leaves (error_is x) w i ≡ w
      left Full = refl
      left OutOfTurn = refl

-- ---- a record number that may be any

module _ (w : List ℕ) (i : ℕ) where
  pub steps : (b : Bool) → Usable w → b ≡ live (view w) i → b ≡ true → Steps w i
  steps b u e h = step.steps w i b (record { long = omega (arith, u.long); sound = u.sound }) e h

  pub not_live : (b : Bool) → b ≡ live (view w) i → b ≡ false → outcome out_of_turn w ≡ boxed_step w i
  unfolding step_words boxed_step
  not_live b e h =
      let g = step.not_live w i b e h in
      let a : answer_s (geometry_of (view w)) raised (view w) i ≡ out_of_turn = cc in
      ap (λ (y : Answer). outcome y (step_leaves y w i)) (sym a)
