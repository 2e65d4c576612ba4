-- A step on a handed work space, on the entry point's definition: what it answers and leaves is the forest's step, whoever wrote the words.
use Rattle.std.specs.Prelude.{ℕ, ◌≡◌, List}
use Rattle.rings.specs.Progress.{Ring}
use Rattle.geometry.specs.declared.Point.{Point}
use Rattle.job.specs.Limits as limit
use Rattle.lone.specs.Forest.{Machine, Forest, answer, step_forest, run_forest}
use Rattle.lone.specs.Plane.{lone_ring}
use Rattle.store.specs.Words.{view}
use Rattle.store.specs.Value.{preserve_collinear}
use Rattle.acts.specs.InStep.{InStep, Elsewhere}
use Rattle.turns.specs.Form.{raised, geometry_of}
use Rattle.finishing.specs.Step.{stepped_as, step_of}
use Rattle.finishing.specs.Run.{run_of}
use Rattle.altered.specs.OwnForest.{forest_of, Settled}

-- the words hold this forest
abbrev pub HoldsForest : List ℕ → Forest (Ring Point) (List Point) → Type 0
HoldsForest w F = InStep raised.of (view w) F

-- the lone ring by the work space's settings
abbrev pub rings_of : List ℕ → Machine (Ring Point)
rings_of w = lone_ring (preserve_collinear (view w))

-- the step on record number i
pub record StepIs (w : List ℕ) (F : Forest (Ring Point) (List Point)) (i : ℕ) : Type 0 where
  -- 12, 10 or carried out, as the forest says
  pub answers : (step_of w i).answer ≡ stepped_as (answer (rings_of w) limit.POINTS limit.RECORDS F i)
  -- and the words hold the forest after its step, unless the ring's start was the number of the point that this step puts in
  pub stays : Elsewhere (geometry_of (view w)) raised (view w) i → HoldsForest (step_of w i).words (step_forest (rings_of w) limit.POINTS limit.RECORDS F i)

-- a work space after a list of steps, and its forest
pub record After (w : List ℕ) (F : Forest (Ring Point) (List Point)) (is : List ℕ) : Type 0 where
  pub holds : HoldsForest (run_of w is) (run_forest (rings_of w) limit.POINTS limit.RECORDS F is)
  pub answers : (i : ℕ) → (step_of (run_of w is) i).answer ≡ stepped_as (answer (rings_of w) limit.POINTS limit.RECORDS (run_forest (rings_of w) limit.POINTS limit.RECORDS F is) i)

-- of a work space that passes the tests
pub record Altered (w : List ℕ) : Type 0 where
  -- its words hold a forest
  pub has_one : HoldsForest w (forest_of raised.of (view w))
  pub one_step : (F : Forest (Ring Point) (List Point)) → HoldsForest w F → (i : ℕ) → StepIs w F i
  -- where starts are points in use or no point's number, as 65,535, every list of steps is the forest's
  pub every_list : Settled (view w) → (F : Forest (Ring Point) (List Point)) → HoldsForest w F → (is : List ℕ) → After w F is
