-- The same of words. Where the test says that a ring's box cannot change, the words that stand there are its box still, and need no walk.
use Prim.Native.Nat.{ℕ, ◌≤◌}
use mathlib.Core.Path.{◌≡◌, sym, ap, ◌∙◌, subst}
use mathlib.Core.Bool.{false}
use mathlib.Core.List.{List}
use lib.ListN.{length}
use Rattle.job.specs.Limits as limit
use Rattle.lone.specs.Forest.{ok}
use Rattle.store.specs.Field.{BLOCK}
use Rattle.store.specs.Words.{Store, view}
use Rattle.store.specs.Sound.{recs}
use Rattle.store.specs.Good.{Sound}
use Rattle.store.specs.Value.{preserve_collinear}
use Rattle.store.specs.Boxes.{sides_of, ring_box, Boxed, boxed_at}
use Rattle.bounds.proofs.Beside.{boxed_set, boxed_again}
use Rattle.acts.specs.Step.{answer_s, step_w}
use Rattle.acts.specs.Run.{step_s}
use Rattle.acts.proofs.Stepping.{able, view_step, step_w_sound}
use Rattle.beside.proofs.Writing.{step_sides}
use Rattle.turns.specs.Form.{raised, geometry_of}
use Rattle.turns.proofs.Ready.{laws}
use Rattle.boxes.specs.Acts.{may_change, kept_box}
use Rattle.boxes.specs.Beside.{ring_now, act_now, BoxesAfter, Shrinks}
use Rattle.boxes.proofs.Beside.{step_boxes, step_shrinks}

module _ (w : List ℕ) (long : BLOCK ≤ length w) (o : Sound (view w)) (i : ℕ) where
  -- the words after the step
  abbrev w' : List ℕ
  w' = step_w (geometry_of (view w)) raised w i

  view_is : view w' ≡ step_s (geometry_of (view w)) raised (view w) i
  view_is = view_step (geometry_of (view w)) raised (laws (preserve_collinear (view w))) w i long o

  -- no step lets a box pass the one before
  pub words_shrink : Shrinks (view w) (view w')
  words_shrink = subst (Shrinks (view w)) (sym view_is) (step_shrinks (view w) o i)

  module _ (done : answer_s (geometry_of (view w)) raised (view w) i ≡ ok) where
    pub words_boxes : BoxesAfter (view w) (view w') i
    words_boxes = subst (λ (s : Store). BoxesAfter (view w) s i) (sym view_is) (step_boxes (view w) o i done)

    -- the code's shortcut: the box of the stepped ring, written again, is what stands there
    pub not_walked : Boxed w i → may_change (ring_box (view w) i) (ring_now (view w) i).circle (act_now (view w) i) ≡ false → boxed_at w' i ≡ w'
    unfolding kept_box
    not_walked b m =
        boxed_again w' i few
        (λ l. step_sides (geometry_of (view w)) raised (laws (preserve_collinear (view w))) w long o i i ∙ boxed_set w i b (able (geometry_of (view w)) raised (view w) i done).closed.ringed ∙ ap sides_of (sym same))
      where
        same : ring_box (view w') i ≡ ring_box (view w) i
        same = words_boxes.own ∙ rw m

        few : recs (view w') ≤ limit.RECORDS
        few = (step_w_sound (geometry_of (view w)) raised (laws (preserve_collinear (view w))) w i long o).few_records
