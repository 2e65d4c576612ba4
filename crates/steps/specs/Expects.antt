-- What the code that carries out the step that comes next requires.
use Rattle.std.specs.Prelude.{ℕ, ◌≡◌, Bool, true, false, cond, List}
use Rattle.rings.specs.Progress.{while_removing}
use Rattle.lone.specs.Act.{drop_point, discard}
use Rattle.store.specs.Words.{view}
use Rattle.walks.specs.Ring.{OnRing}
use Rattle.acts.specs.Step.{live}
use Rattle.turns.specs.Form.{raised, geometry_of}
use Rattle.turns.specs.Reads.{Steps}
use Rattle.turns.specs.Decide.{valid_without, decide_at}
use Rattle.steps.specs.declared.coming.Coming.{Coming}
use Rattle.steps.specs.declared.coming.Coming.TheVariants.{Nothing, Step, Drop}

-- the step of an unfinished closed ring drops its point x, or discards the ring if it is not valid without x
pub record Dropping (w : List ℕ) (i x : ℕ) : Type 0 where
  pub steps : Steps w i
  pub on : OnRing w x
  pub drops : cond (valid_without raised.of (geometry_of (view w)) (view w) x) drop_point (discard while_removing) ≡ decide_at raised.of (geometry_of (view w)) (view w) i

-- what is known of record i where a step comes next
abbrev pub Expects : Coming → List ℕ → ℕ → Type 0
Expects Nothing w i = false ≡ live (view w) i
Expects Step w i = true ≡ live (view w) i
Expects (Drop x) w i = Dropping w i x

-- the next step of a record, once it is known whether it is an unfinished closed ring
abbrev pub coming_if : Bool → Coming
coming_if true = Step
coming_if false = Nothing
