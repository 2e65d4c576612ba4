-- The loops of finishing: how far each is, with laws begun, next and stop.
use Prim.Native.Nat.{ℕ, zero, suc, ◌+◌, ◌-◌, ◌%◌, ◌≤◌, ◌<◌}
use mathlib.Core.Path.{◌≡◌, refl, ap, ◌∙◌, sym, subst}
use mathlib.Core.Bool.{Bool, true, false, not, cond, ◌&&◌}
use mathlib.Core.List.{List}
use native.Mathlib.Omega.{arith}
use native.Mathlib.Numerals.{add-one}
use lib.Dec.{eqb}
use borrow.Author.Tests.{le-ltb}
use lib.ListN.{length}
use Rattle.geometry.specs.declared.Point.{Point}
use Rattle.rings.specs.Progress.{is_done}
use Rattle.lone.specs.Lone.{Geo}
use Rattle.lone.specs.Plane.{plane}
use Rattle.lone.specs.Forest.{Answer, ok, full, out_of_turn, is_ok}
use Rattle.lone.specs.Rounds.{enough}
use Rattle.store.specs.Field.{ct, SETTINGS, BLOCK}
use Rattle.store.specs.Words.{view}
use Rattle.store.specs.Sound.{recs, is_open, lone_at}
use Rattle.store.specs.Good.{SoundWords}
use Rattle.store.specs.Value.{preserve_collinear}
use Rattle.acts.specs.Step.{Outcome, outcome, act_at, room_for, answer_s, step_by_w, step_w}
use Rattle.acts.specs.Run.{step_words}
use Rattle.acts.specs.Finish.{rings_done, rings_full, and_then, steps_by_w, finish_record, finish_from_w, finish_w}
use Rattle.acts.specs.Finishable.{MayFinish, words_left}
use Rattle.acts.proofs.Stepping.{length_step}
use Rattle.acts.proofs.Finishing.{settings_kept, finishes_step, words_fall, words_bound, finishes_record, settings_record, length_record}
use Rattle.turns.specs.Form.{raised, geometry_of}
use Rattle.turns.proofs.Ready.{laws}
use Rattle.steps.specs.declared.coming.Coming.{Coming}
use Rattle.std.specs.Prelude.{Result, Ok, Err, ⊤}
use Rattle.steps.specs.declared.StepError.{StepError}
use Rattle.steps.specs.declared.StepError.TheVariants.{Full, OutOfTurn}
use Rattle.steps.specs.Code.{error_is, answer_is}
use Rattle.steps.specs.Glide.{Glided, still, onward, Glides}

-- finishing record i of the words w₀ stands at w
pub record Running (w₀ : List ℕ) (i : ℕ) (w : List ℕ) : Type 0 where
  pub finishes : MayFinish (geometry_of (view w₀)) raised w
  pub same : view w (ct SETTINGS) 0 ≡ view w₀ (ct SETTINGS) 0
  pub size : length w ≡ length w₀
  pub fuel : ℕ
  pub some : 0 < fuel
  pub more : answer_s (geometry_of (view w₀)) raised (view w) i ≡ ok → words_left (geometry_of (view w₀)) raised w i < fuel
  pub is : finish_record (geometry_of (view w₀)) raised w₀ i ≡ steps_by_w (geometry_of (view w₀)) raised fuel (answer_s (geometry_of (view w₀)) raised (view w) i) w i

pub begun : (w : List ℕ) (i : ℕ) → MayFinish (geometry_of (view w)) raised w → Running w i w
unfolding finish_record
begun w i v = record { finishes = v; same = refl; size = refl; fuel = enough 2048; some = omega arith; more = words_bound (geometry_of (view w)) raised (laws (preserve_collinear (view w))) w i v; is = refl }

module _ (w₀ : List ℕ) (i : ℕ) (w : List ℕ) (R : Running w₀ i w) where
  pub sound_words : SoundWords w
  sound_words = record { long = R.finishes.rep.long; sound = R.finishes.rep.rep.in_step.sound }

  module _ (w' : List ℕ) (a : Answer) (e : outcome a w' ≡ step_words (geometry_of (view w)) raised w i) where
    stepped : outcome a w' ≡ outcome (answer_s (geometry_of (view w₀)) raised (view w) i) (step_w (geometry_of (view w₀)) raised w i)
    unfolding step_words
    stepped = subst (λ (s : ℕ). outcome a w' ≡ outcome (answer_s (plane (eqb (s % 2) 1)) raised (view w) i) (step_w (plane (eqb (s % 2) 1)) raised w i)) R.same e

    says : answer_s (geometry_of (view w₀)) raised (view w) i ≡ a
    says = cc stepped

    words : step_w (geometry_of (view w₀)) raised w i ≡ w'
    words = cc stepped

    module _ (b : Bool) (eb : b ≡ not (is_ok a)) where
      module _ (h : b ≡ false) where
        ok_says : answer_s (geometry_of (view w₀)) raised (view w) i ≡ ok
        ok_says = says ∙ by a (sym eb ∙ h)
          where
            by : (x : Answer) → not (is_ok x) ≡ false → x ≡ ok
            by ok h = refl
            by full h = let y : ◌≡◌ {A = ℕ} 0 1 = cc in absurd (omega arith)
            by out_of_turn h = let y : ◌≡◌ {A = ℕ} 0 1 = cc in absurd (omega arith)

        fell : words_left (geometry_of (view w₀)) raised (step_w (geometry_of (view w₀)) raised w i) i < words_left (geometry_of (view w₀)) raised w i
        fell = words_fall (geometry_of (view w₀)) raised (laws (preserve_collinear (view w₀))) w i R.finishes ok_says

        next : Running w₀ i w'
        next = subst (Running w₀ i) words (go R.fuel (R.more ok_says) R.is)
          where
            go : (n : ℕ) → words_left (geometry_of (view w₀)) raised w i < n → finish_record (geometry_of (view w₀)) raised w₀ i ≡ steps_by_w (geometry_of (view w₀)) raised n (answer_s (geometry_of (view w₀)) raised (view w) i) w i
                → Running w₀ i (step_w (geometry_of (view w₀)) raised w i)
            go zero l q = absurd (omega arith)
            go (suc n) l q =
                record {
                  finishes = finishes_step (geometry_of (view w₀)) raised (laws (preserve_collinear (view w₀))) w i R.finishes;
                  same = settings_kept (geometry_of (view w₀)) raised (laws (preserve_collinear (view w₀))) w i R.finishes ∙ R.same;
                  size = length_step (geometry_of (view w₀)) raised w i ∙ R.size;
                  fuel = n;
                  some = omega (arith, fell);
                  more = λ k. omega (arith, fell);
                  is = q ∙ ap (λ (x : Answer). steps_by_w (geometry_of (view w₀)) raised (suc n) x w i) ok_says;
                }

        fallen : words_left (geometry_of (view w₀)) raised w' i < words_left (geometry_of (view w₀)) raised w i
        fallen = subst (λ (u : List ℕ). words_left (geometry_of (view w₀)) raised u i < words_left (geometry_of (view w₀)) raised w i) words fell

      stop : b ≡ true → outcome a w' ≡ finish_record (geometry_of (view w₀)) raised w₀ i
      unfolding step_w
      stop h = stepped ∙ go R.fuel R.some (answer_s (geometry_of (view w₀)) raised (view w) i) (ap (λ (x : Answer). not (is_ok x)) says ∙ sym eb ∙ h) ∙ sym R.is
        where
          go : (n : ℕ) → 0 < n → (x : Answer) → not (is_ok x) ≡ true → outcome x (step_by_w (geometry_of (view w₀)) raised w i x) ≡ steps_by_w (geometry_of (view w₀)) raised n x w i
          go zero z x k = absurd (omega arith)
          go (suc n) z ok k = let y : ◌≡◌ {A = ℕ} 0 1 = cc in absurd (omega arith)
          go (suc n) z full k = refl
          go (suc n) z out_of_turn k = refl

-- steps that only move on, before one
glide_running : (w₀ : List ℕ) (i : ℕ) (w u : List ℕ) → Running w₀ i w → Glided i w u → Running w₀ i u
glide_running w₀ i w u R still = R
glide_running w₀ i w u R (onward t v g e) = next w₀ i t (glide_running w₀ i w t R g) v ok e false refl refl

glide_falls : (w₀ : List ℕ) (i : ℕ) (w u : List ℕ) → Running w₀ i w → Glided i w u → words_left (geometry_of (view w₀)) raised u i ≤ words_left (geometry_of (view w₀)) raised w i
glide_falls w₀ i w u R still = omega arith
glide_falls w₀ i w u R (onward t v g e) = omega (arith, glide_falls w₀ i w t R g, fallen w₀ i t (glide_running w₀ i w t R g) v ok e false refl refl)

module _ (w₀ : List ℕ) (i : ℕ) (w : List ℕ) (R : Running w₀ i w) (u : List ℕ) (l : Coming) (g : Glides i w u l) (w' : List ℕ) (a : Result ⊤ StepError) (e : outcome (answer_is a) w' ≡ step_words (geometry_of (view u)) raised u i) where
  there : Running w₀ i u
  there = glide_running w₀ i w u R g.glided

  pub next_on : (x : ⊤) → a ≡ Ok x → Running w₀ i w'
  next_on x h = next w₀ i u there w' (answer_is a) e false (ap (λ (y : Result ⊤ StepError). not (is_ok (answer_is y))) (sym h)) refl

  pub fallen_on : (x : ⊤) → a ≡ Ok x → words_left (geometry_of (view w₀)) raised w' i < words_left (geometry_of (view w₀)) raised w i
  fallen_on x h = omega (arith, glide_falls w₀ i w u R g.glided, fallen w₀ i u there w' (answer_is a) e false (ap (λ (y : Result ⊤ StepError). not (is_ok (answer_is y))) (sym h)) refl)

  pub stop_on : (x : StepError) → a ≡ Err x → outcome (error_is x) w' ≡ finish_record (geometry_of (view w₀)) raised w₀ i
  stop_on x h =
      ap (λ (y : Result ⊤ StepError). outcome (answer_is y) w') (sym h)
      ∙ stop w₀ i u there w' (answer_is a) e true (sym (ap (λ (y : Result ⊤ StepError). not (is_ok (answer_is y))) h ∙ no_ok x)) refl
    where
      no_ok : (x : StepError) → not (is_ok (error_is x)) ≡ true
      no_ok Full = refl
      no_ok OutOfTurn = refl

-- a number that is no record's: the step is out of turn, and finishing it changes nothing
module _ (G : Geo Point) (w : List ℕ) where
  past : (i : ℕ) → recs (view w) ≤ i → answer_s G raised (view w) i ≡ out_of_turn
  unfolding answer_s
  past i h = ap (λ (b : Bool). cond (b && (not (is_open (view w) i) && not (is_done (lone_at (view w) i).due))) (room_for (view w) (act_at G raised (view w) i)) out_of_turn) (le-ltb i (recs (view w)) h)

  idle : (i : ℕ) → recs (view w) ≤ i → finish_record G raised w i ≡ outcome out_of_turn w
  unfolding finish_record
  idle i h = ap (λ (a : Answer). steps_by_w G raised (enough 2048) a w i) (past i h) ∙ go (enough 2048)
    where
      go : (n : ℕ) → steps_by_w G raised n out_of_turn w i ≡ outcome out_of_turn w
      go zero = refl
      go (suc n) = refl

  none_left : (m i : ℕ) → recs (view w) ≤ i → finish_from_w G raised m w i ≡ rings_done w
  none_left zero i h = refl
  none_left (suc m) i h = ap (λ (o : Outcome). and_then o (λ (u : List ℕ). finish_from_w G raised m u (suc i))) (idle i h) ∙ none_left m (suc i) (omega (arith, h))

-- finishing all records of the words w₀ stands at record i, with w
pub record Remaining (w₀ : List ℕ) (i : ℕ) (w : List ℕ) : Type 0 where
  pub finishes : MayFinish (geometry_of (view w₀)) raised w
  pub same : view w (ct SETTINGS) 0 ≡ view w₀ (ct SETTINGS) 0
  pub size : length w ≡ length w₀
  pub low : i ≤ 512
  pub is : finish_w (geometry_of (view w₀)) raised w₀ ≡ finish_from_w (geometry_of (view w₀)) raised (512 - i) w i

pub begun_all : (w : List ℕ) → MayFinish (geometry_of (view w)) raised w → Remaining w 0 w
unfolding finish_w
begun_all w v = record { finishes = v; same = refl; size = refl; low = omega arith; is = refl }

module _ (w₀ : List ℕ) (i : ℕ) (w : List ℕ) (R : Remaining w₀ i w) where
  pub finishes_now : MayFinish (geometry_of (view w)) raised w
  finishes_now = subst (λ (s : ℕ). MayFinish (plane (eqb (s % 2) 1)) raised w) (sym R.same) R.finishes

  module _ (l : i < 512) (w' : List ℕ) (x : StepError) (e : outcome (error_is x) w' ≡ finish_record (geometry_of (view w)) raised w i) where
    abbrev a : Answer
    a = error_is x

    finished : outcome a w' ≡ finish_record (geometry_of (view w₀)) raised w i
    finished = subst (λ (s : ℕ). outcome a w' ≡ finish_record (plane (eqb (s % 2) 1)) raised w i) R.same e

    here : finish_w (geometry_of (view w₀)) raised w₀ ≡ and_then (outcome a w') (λ (u : List ℕ). finish_from_w (geometry_of (view w₀)) raised (512 - (i + 1)) u (i + 1))
    here =
        let n : 512 - i ≡ suc (512 - (i + 1)) = omega arith in
        R.is ∙ ap (λ (m : ℕ). finish_from_w (geometry_of (view w₀)) raised m w i) n
        ∙ ap (λ (o : Outcome). and_then o (λ (u : List ℕ). finish_from_w (geometry_of (view w₀)) raised (512 - (i + 1)) u (suc i))) (sym finished)
        ∙ ap (λ (j : ℕ). and_then (outcome a w') (λ (u : List ℕ). finish_from_w (geometry_of (view w₀)) raised (512 - (i + 1)) u j)) (sym (add-one i))

    by_answer : (y : StepError) → x ≡ y → finish_w (geometry_of (view w₀)) raised w₀ ≡ and_then (outcome (error_is y) w') (λ (u : List ℕ). finish_from_w (geometry_of (view w₀)) raised (512 - (i + 1)) u (i + 1))
    by_answer y h = here ∙ ap (λ (z : StepError). and_then (outcome (error_is z) w') (λ (u : List ℕ). finish_from_w (geometry_of (view w₀)) raised (512 - (i + 1)) u (i + 1))) h

    pub next_all : (x ≡ Full → ⊥) → Remaining w₀ (i + 1) w'
    next_all h =
        record {
          finishes = finishes_record (geometry_of (view w₀)) raised (laws (preserve_collinear (view w₀))) w i a w' R.finishes finished;
          same = settings_record (geometry_of (view w₀)) raised (laws (preserve_collinear (view w₀))) w i a w' R.finishes finished ∙ R.same;
          size = length_record (geometry_of (view w₀)) raised (laws (preserve_collinear (view w₀))) w i a w' finished ∙ R.size;
          low = omega arith;
          is = by_answer OutOfTurn (go x h);
        }
      where
        go : (y : StepError) → (y ≡ Full → ⊥) → y ≡ OutOfTurn
        go Full f = absurd (f refl)
        go OutOfTurn f = refl

    pub stop_all : x ≡ Full → rings_full w' ≡ finish_w (geometry_of (view w₀)) raised w₀
    stop_all h = sym (by_answer Full h)

  pub long_all : BLOCK ≤ length w
  long_all = R.finishes.rep.long

  -- past the records nothing is left to do
  pub past_all : (n : ℕ) → n ≡ recs (view w) → n ≤ i → rings_done w ≡ finish_w (geometry_of (view w₀)) raised w₀
  past_all n e h = sym (R.is ∙ none_left (geometry_of (view w₀)) w (512 - i) i (omega (arith, e, h)))

  pub end_all : 512 ≤ i → rings_done w ≡ finish_w (geometry_of (view w₀)) raised w₀
  end_all h = let n : 512 - i ≡ 0 = omega arith in sym (R.is ∙ ap (λ (m : ℕ). finish_from_w (geometry_of (view w₀)) raised m w i) n)
