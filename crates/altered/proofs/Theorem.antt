-- Every work space that passes the tests: a step on its words is the step of the forest that they hold.
use Prim.Native.Nat.{ℕ, ◌%◌, ◌≤◌}
use mathlib.Core.Path.{◌≡◌, refl, ap, ◌∙◌, sym, subst}
use mathlib.Core.Bool.{Bool}
use mathlib.Core.List.{List, [], ◌∷◌}
use native.Mathlib.Omega.{arith}
use lib.Dec.{eqb}
use lib.ListN.{length}
use Rattle.std.specs.Prelude.{Ok}
use Rattle.rings.specs.Progress.{Ring}
use Rattle.geometry.specs.declared.Point.{Point}
use Rattle.lone.specs.Forest.{Forest, answer, step_forest, run_forest}
use Rattle.lone.specs.Plane.{lone_ring}
use Rattle.store.specs.Field.{ct, SETTINGS, BLOCK}
use Rattle.store.specs.Words.{Store, view}
use Rattle.store.specs.Value.{preserve_collinear}
use Rattle.handed.specs.Handed.{handed_of, Usable}
use Rattle.handed.proofs.Handing.{handed_usable}
use Rattle.acts.specs.Step.{step_w}
use Rattle.acts.specs.Run.{step_s}
use Rattle.acts.specs.InStep.{InStep}
use Rattle.acts.proofs.Stepping.{view_step, answer_is, step_is}
use Rattle.turns.specs.Form.{raised, geometry_of}
use Rattle.turns.proofs.Ready.{laws}
use Rattle.audit.specs.Left.{Left}
use Rattle.finishing.specs.Step.{stepped_as, step_of}
use Rattle.finishing.specs.Run.{run_of}
use Rattle.finishing.proofs.Blocks as blocks
use Rattle.finishing.proofs.Blocks.{view_leaves, words_are, call_usable}
use Rattle.order.proofs.Settings.{step_settings}
use Rattle.altered.specs.OwnForest.{Settled}
use Rattle.altered.specs.Altered.{HoldsForest, StepIs, Altered}
use Rattle.altered.proofs.OwnForest.{own_forest}
use Rattle.altered.proofs.Starts.{elsewhere, settled_step}

module _ (w : List ℕ) (f : Usable w) (i : ℕ) where
  l : BLOCK ≤ length w
  l = omega (arith, f.long)

  -- the store that it leaves is the step's, without its boxes
  view_words : view (step_of w i).words ≡ view (step_w (geometry_of (view w)) raised w i)
  view_words = ap view (words_are w f i) ∙ view_leaves w l f.sound i

  view_of : view (step_of w i).words ≡ step_s (geometry_of (view w)) raised (view w) i
  view_of = view_words ∙ view_step (geometry_of (view w)) raised (laws (preserve_collinear (view w))) w i l f.sound

  same_settings : preserve_collinear (view (step_of w i).words) ≡ preserve_collinear (view w)
  same_settings = ap (λ (n : ℕ). eqb (n % 2) 1) (ap (λ (s : Store). s (ct SETTINGS) 0) view_words ∙ step_settings raised (geometry_of (view w)) (laws (preserve_collinear (view w))) w i l f.sound)

  still_settled : Settled (view w) → Settled (view (step_of w i).words)
  still_settled h = subst (λ (s : Store). Settled s) (sym view_of) (settled_step (geometry_of (view w)) raised (laws (preserve_collinear (view w))) (view w) f.sound h i)

  one_step : (F : Forest (Ring Point) (List Point)) → HoldsForest w F → StepIs w F i
  one_step F r =
      record {
        answers = ap (λ (x : Left). x.answer) (blocks.step_is w f i) ∙ ap stepped_as (answer_is (geometry_of (view w)) raised (view w) F r i);
        stays = λ h. subst (λ (s : Store). InStep raised.of s (step_forest (lone_ring (preserve_collinear (view w))) 2048 512 F i)) (sym view_of) (step_is (geometry_of (view w)) raised (view w) F r i (laws (preserve_collinear (view w))) h);
      }

-- b: the setting
module _ (b : Bool) where
  -- a work space on the way
  record Going (w : List ℕ) (F : Forest (Ring Point) (List Point)) : Type 0 where
    pub fit : Usable w
    pub setting : preserve_collinear (view w) ≡ b
    pub holds : HoldsForest w F
    pub settled : Settled (view w)

  next : (w : List ℕ) (F : Forest (Ring Point) (List Point)) → Going w F → (i : ℕ) → Going (step_of w i).words (step_forest (lone_ring b) 2048 512 F i)
  next w F g i =
      record {
        fit = call_usable w g.fit i;
        setting = same_settings w g.fit i ∙ g.setting;
        holds = subst (λ (k : Bool). HoldsForest (step_of w i).words (step_forest (lone_ring k) 2048 512 F i)) g.setting
            ((one_step w g.fit i F g.holds).stays (elsewhere (geometry_of (view w)) raised (laws (preserve_collinear (view w))) (view w) g.settled i));
        settled = still_settled w g.fit i g.settled;
      }

  run : (is : List ℕ) (w : List ℕ) (F : Forest (Ring Point) (List Point)) → Going w F → Going (run_of w is) (run_forest (lone_ring b) 2048 512 F is)
  run [] w F g = g
  run (i ∷ is) w F g = run is (step_of w i).words (step_forest (lone_ring b) 2048 512 F i) (next w F g i)

  answered : (w : List ℕ) (F : Forest (Ring Point) (List Point)) → Going w F → (i : ℕ) → (step_of w i).answer ≡ stepped_as (answer (lone_ring b) 2048 512 F i)
  answered w F g i = subst (λ (k : Bool). (step_of w i).answer ≡ stepped_as (answer (lone_ring k) 2048 512 F i)) g.setting (one_step w g.fit i F g.holds).answers

pub altered : (w : List ℕ) → handed_of w ≡ Ok tt → Altered w
altered w e =
    let f : Usable w = handed_usable w e in
    record {
      has_one = own_forest raised.of (view w) f.sound;
      one_step = λ F r i. one_step w f i F r;
      every_list = λ h F r is.
          let g : Going (preserve_collinear (view w)) (run_of w is) (run_forest (lone_ring (preserve_collinear (view w))) 2048 512 F is) = run (preserve_collinear (view w)) is w F (record { fit = f; setting = refl; holds = r; settled = h }) in
          record { holds = g.holds; answers = λ i. answered (preserve_collinear (view w)) (run_of w is) _ g i };
    }
