-- Boxes and finishing: boxes that stand there before it stand there after it. So of boxes that are written at its end those alone count.
use Prim.Native.Nat.{ℕ, zero, suc, ◌≤◌}
use mathlib.Core.Path.{◌≡◌, refl, ap, ◌∙◌, sym, subst}
use mathlib.Core.List.{List}
use native.Mathlib.Omega.{arith}
use lib.ListN.{length}
use Rattle.job.specs.Limits as limit
use Rattle.lone.specs.Lone.{Geo}
use Rattle.lone.specs.Forest.{Answer, ok, full, out_of_turn}
use Rattle.lone.specs.Rounds.{enough}
use Rattle.store.specs.declared.boxed.Sides.{Sides}
use Rattle.store.specs.Field.{ct, RECORDS, BLOCK}
use Rattle.store.specs.Words.{Store, view}
use Rattle.store.specs.Named.{records_of}
use Rattle.store.specs.Sound.{recs}
use Rattle.store.specs.Good.{Sound}
use Rattle.store.specs.Boxes.{all_boxed}
use Rattle.acts.specs.Apply.{Coding}
use Rattle.acts.specs.Laws.{Laws}
use Rattle.acts.specs.Step.{Outcome, outcome, answer_s, step_w}
use Rattle.acts.specs.Run.{step_answered, step_s}
use Rattle.acts.specs.Finish.{RingsEnd, rings_done, rings_full, and_then, steps_by_w, finish_record, finish_from_w, finish_w}
use Rattle.acts.proofs.Stepping.{able, step_acts, view_step, step_w_sound, length_step}
use Rattle.acts.proofs.Finishing.{words_of}
use Rattle.beside.specs.Sides.{with_sides, ring_sides}
use Rattle.beside.proofs.Setting.{view_with, with_over, all_with}
use Rattle.beside.proofs.Stepping.{with_step}

-- the same answer, over what h makes of the words
abbrev outcome_by : (List ℕ → List ℕ) → Outcome → Outcome
outcome_by h (outcome a w) = outcome a (h w)

abbrev pub end_by : (List ℕ → List ℕ) → RingsEnd → RingsEnd
end_by h (rings_done w) = rings_done (h w)
end_by h (rings_full w) = rings_full (h w)

-- the words that are left
abbrev pub end_words : RingsEnd → List ℕ
end_words (rings_done w) = w
end_words (rings_full w) = w

-- u: what steps leave of w
pub record Stepped (w u : List ℕ) : Type 0 where
  pub size : length u ≡ length w
  pub sound : Sound (view u)
  pub more : records_of w ≤ records_of u

none : (w : List ℕ) → Sound (view w) → Stepped w w
none w o = record { size = refl; sound = o; more = omega arith }

on : (w u v : List ℕ) → Stepped w u → Stepped u v → Stepped w v
on w u v a b = record { size = b.size ∙ a.size; sound = b.sound; more = omega (arith, a.more, b.more) }

-- the boxes of the later writing stand, where it reaches as far
boxed_over : (g : ℕ → Sides) (n : ℕ) (u : List ℕ) → BLOCK ≤ length u → n ≤ records_of u → records_of u ≤ limit.RECORDS → all_boxed (with_sides g n u) ≡ all_boxed u
boxed_over g n u l h few =
    all_with (with_sides g n u)
    ∙ ap (λ (s : Store). with_sides (ring_sides s) (s (ct RECORDS) 0) (with_sides g n u)) (view_with g u n)
    ∙ with_over (ring_sides (view u)) g u l (records_of u) few n h
    ∙ sym (all_with u)

module _ {P : Type 0} (G : Geo P) (f : Coding P) (Λ : Laws G f) where
  -- ---- what finishing keeps

  more_records : (s : Store) → Sound s → (i : ℕ) → recs s ≤ recs (step_s G f s i)
  unfolding step_s
  more_records s o i = by (answer_s G f s i) refl
    where
      by : (a : Answer) → answer_s G f s i ≡ a → recs s ≤ recs (step_answered G f s i a)
      by ok e = (step_acts G f s i Λ o (able G f s i e)).stepped.kept.records_up
      by full e = omega arith
      by out_of_turn e = omega arith

  one : (w : List ℕ) → BLOCK ≤ length w → Sound (view w) → (i : ℕ) → Stepped w (step_w G f w i)
  one w l o i =
      record {
        size = length_step G f w i;
        sound = step_w_sound G f Λ w i l o;
        more = subst (λ (s : Store). recs (view w) ≤ recs s) (sym (view_step G f Λ w i l o)) (more_records (view w) o i);
      }

  steps : (n : ℕ) (a : Answer) (w : List ℕ) (i : ℕ) → BLOCK ≤ length w → Sound (view w) → Stepped w (words_of (steps_by_w G f n a w i))
  steps zero a w i l o = none w o
  steps (suc n) ok w i l o =
      let U : List ℕ = step_w G f w i in
      let s = one w l o i in
      on w U (words_of (steps_by_w G f n (answer_s G f (view U) i) U i)) s (steps n (answer_s G f (view U) i) U i (omega (arith, s.size)) s.sound)
  steps (suc n) full w i l o = none w o
  steps (suc n) out_of_turn w i l o = none w o

  finishes : (w : List ℕ) → BLOCK ≤ length w → Sound (view w) → (i : ℕ) → Stepped w (words_of (finish_record G f w i))
  unfolding finish_record
  finishes w l o i = steps (enough 2048) (answer_s G f (view w) i) w i l o

  -- from one record on: what is known of the words, and what is said of the rest
  through : (w : List ℕ) (m i : ℕ) (z : Outcome) → Stepped w (words_of z) → ((u : List ℕ) → Stepped w u → Stepped u (end_words (finish_from_w G f m u (suc i)))) → Stepped w (end_words (and_then z (λ (u : List ℕ). finish_from_w G f m u (suc i))))
  through w m i (outcome ok u) s k = on w u (end_words (finish_from_w G f m u (suc i))) s (k u s)
  through w m i (outcome full u) s k = s
  through w m i (outcome out_of_turn u) s k = on w u (end_words (finish_from_w G f m u (suc i))) s (k u s)

  from : (m : ℕ) (w : List ℕ) (i : ℕ) → BLOCK ≤ length w → Sound (view w) → Stepped w (end_words (finish_from_w G f m w i))
  from zero w i l o = none w o
  from (suc m) w i l o = through w m i (finish_record G f w i) (finishes w l o i) (λ u s. from m u (suc i) (omega (arith, s.size)) s.sound)

  -- ---- boxes before it and after it

  module _ (g : ℕ → Sides) (n : ℕ) where
    steps_with : (k : ℕ) (a : Answer) (w : List ℕ) (i : ℕ) → BLOCK ≤ length w → Sound (view w) → steps_by_w G f k a (with_sides g n w) i ≡ outcome_by (with_sides g n) (steps_by_w G f k a w i)
    steps_with zero a w i l o = refl
    steps_with (suc k) ok w i l o =
        let U : List ℕ = step_w G f w i in
        let s = one w l o i in
        ap (λ (u : List ℕ). steps_by_w G f k (answer_s G f (view u) i) u i) (with_step G f Λ g w l o i n)
        ∙ ap (λ (s : Store). steps_by_w G f k (answer_s G f s i) (with_sides g n U) i) (view_with g U n)
        ∙ steps_with k (answer_s G f (view U) i) U i (omega (arith, s.size)) s.sound
    steps_with (suc k) full w i l o = refl
    steps_with (suc k) out_of_turn w i l o = refl

    record_with : (w : List ℕ) → BLOCK ≤ length w → Sound (view w) → (i : ℕ) → finish_record G f (with_sides g n w) i ≡ outcome_by (with_sides g n) (finish_record G f w i)
    unfolding finish_record
    record_with w l o i =
        ap (λ (s : Store). steps_by_w G f (enough 2048) (answer_s G f s i) (with_sides g n w) i) (view_with g w n)
        ∙ steps_with (enough 2048) (answer_s G f (view w) i) w i l o

    through_with : (w : List ℕ) (m i : ℕ) (z : Outcome) → Stepped w (words_of z)
        → ((u : List ℕ) → Stepped w u → finish_from_w G f m (with_sides g n u) (suc i) ≡ end_by (with_sides g n) (finish_from_w G f m u (suc i)))
        → and_then (outcome_by (with_sides g n) z) (λ (u : List ℕ). finish_from_w G f m u (suc i)) ≡ end_by (with_sides g n) (and_then z (λ (u : List ℕ). finish_from_w G f m u (suc i)))
    through_with w m i (outcome ok u) s k = k u s
    through_with w m i (outcome full u) s k = refl
    through_with w m i (outcome out_of_turn u) s k = k u s

    from_with : (m : ℕ) (w : List ℕ) (i : ℕ) → BLOCK ≤ length w → Sound (view w) → finish_from_w G f m (with_sides g n w) i ≡ end_by (with_sides g n) (finish_from_w G f m w i)
    from_with zero w i l o = refl
    from_with (suc m) w i l o =
        ap (λ (z : Outcome). and_then z (λ (u : List ℕ). finish_from_w G f m u (suc i))) (record_with w l o i)
        ∙ through_with w m i (finish_record G f w i) (finishes w l o i) (λ u s. from_with m u (suc i) (omega (arith, s.size)) s.sound)

  module _ (w : List ℕ) (l : BLOCK ≤ length w) (o : Sound (view w)) where
    -- boxes and finishing in either order
    pub finish_with : (g : ℕ → Sides) (n : ℕ) → finish_w G f (with_sides g n w) ≡ end_by (with_sides g n) (finish_w G f w)
    unfolding finish_w
    finish_with g n = from_with g n 512 w 0 l o

    pub finish_stepped : (r : RingsEnd) → finish_w G f w ≡ r → Stepped w (end_words r)
    unfolding finish_w
    finish_stepped r e = subst (λ (z : RingsEnd). Stepped w (end_words z)) e (from 512 w 0 l o)

    -- every box before finishing, and then again: as if there had been none before
    over : (u : List ℕ) → Stepped w u → all_boxed (with_sides (ring_sides (view w)) (records_of w) u) ≡ all_boxed u
    over u s = boxed_over (ring_sides (view w)) (records_of w) u (omega (arith, s.size)) s.more s.sound.few_records

    boxed_first : finish_w G f (all_boxed w) ≡ end_by (with_sides (ring_sides (view w)) (records_of w)) (finish_w G f w)
    boxed_first = ap (finish_w G f) (all_with w) ∙ finish_with (ring_sides (view w)) (records_of w)

    pub finish_boxed : end_by all_boxed (finish_w G f (all_boxed w)) ≡ end_by all_boxed (finish_w G f w)
    finish_boxed = ap (end_by all_boxed) boxed_first ∙ go (finish_w G f w) (finish_stepped (finish_w G f w) refl)
      where
        go : (r : RingsEnd) → Stepped w (end_words r) → end_by all_boxed (end_by (with_sides (ring_sides (view w)) (records_of w)) r) ≡ end_by all_boxed r
        go (rings_done u) s = ap rings_done (over u s)
        go (rings_full u) s = ap rings_full (over u s)
