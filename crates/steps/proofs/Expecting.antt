-- What the needs of the step that comes next come to: a drop that a walk has tested, and the three kinds.
use Prim.Native.Nat.{ℕ}
use mathlib.Core.Path.{◌≡◌, refl, ap, ◌∙◌, sym, subst}
use mathlib.Core.Bool.{Bool, true, false, cond}
use mathlib.Core.List.{List}
use Rattle.rings.specs.Progress.{while_removing}
use Rattle.geometry.specs.declared.Point.{Point}
use Rattle.lone.specs.Act.{Act, drop_point, discard, takes_points}
use Rattle.lone.specs.Forest.{ok, out_of_turn}
use Rattle.store.specs.Words.{view, on_words}
use Rattle.store.specs.Good.{SoundWords}
use Rattle.acts.specs.Writes.{discard_writes, drop_writes}
use Rattle.acts.specs.Apply.{takes_record, after_w}
use Rattle.acts.specs.Step.{outcome}
use Rattle.acts.specs.Run.{step_words}
use Rattle.turns.specs.Form.{raised, geometry_of}
use Rattle.turns.specs.Reads.{Steps}
use Rattle.turns.specs.Decide.{valid_without}
use Rattle.turns.proofs.Ready.{decided}
use Rattle.steps.specs.declared.coming.Coming.{Coming}
use Rattle.steps.specs.declared.coming.Coming.TheVariants.{Nothing, Step, Drop}
use Rattle.applying.specs.Applies.{Reach}
use Rattle.steps.specs.Expects.{Dropping, Expects}
use Rattle.applying.proofs.Applying.{reach}
use Rattle.steps.proofs.Steps.{roomy, went, not_live, steps}

-- ---- a drop
module _ (w : List ℕ) (i x : ℕ) (D : Dropping w i x) where
  pub dropped_reach : Reach w i
  dropped_reach = reach w i D.steps

  module _ (b : Bool) (e : b ≡ valid_without raised.of (geometry_of (view w)) (view w) x) (w' : List ℕ) where
    -- an act that takes no place, and is what the ring without x asks for
    by_act : (act : Act Point) → takes_points act ≡ 0 → takes_record act ≡ 0 → cond b drop_point (discard while_removing) ≡ act → w' ≡ after_w raised w i act → outcome ok w' ≡ step_words (geometry_of (view w)) raised w i
    by_act act p r q k =
        let a = decided w i D.steps act (sym q ∙ ap (λ (b : Bool). cond b drop_point (discard while_removing)) e ∙ D.drops) in
        went w i D.steps act a true (roomy (view w) D.steps.sound act p r) w' refl k

    pub drops : b ≡ true → w' ≡ on_words w (drop_writes (view w) i) → outcome ok w' ≡ step_words (geometry_of (view w)) raised w i
    drops h k = by_act drop_point refl refl (ap (λ (b : Bool). cond b drop_point (discard while_removing)) h) k

    pub discards : b ≡ false → w' ≡ on_words w (discard_writes i while_removing) → outcome ok w' ≡ step_words (geometry_of (view w)) raised w i
    discards h k = by_act (discard while_removing) refl refl (ap (λ (b : Bool). cond b drop_point (discard while_removing)) h) k

-- ---- by what comes next
module _ (w : List ℕ) (i : ℕ) (c : Coming) (E : Expects c w i) where
  pub comes_none : c ≡ Nothing → outcome out_of_turn w ≡ step_words (geometry_of (view w)) raised w i
  comes_none e = not_live w i false (subst (λ (c : Coming). Expects c w i) e E) refl

  pub comes_step : SoundWords w → c ≡ Step → Steps w i
  comes_step s e = steps w i true s (subst (λ (c : Coming). Expects c w i) e E) refl

  pub comes_drop : (x : ℕ) → c ≡ Drop x → Dropping w i x
  comes_drop x e = subst (λ (c : Coming). Expects c w i) e E
