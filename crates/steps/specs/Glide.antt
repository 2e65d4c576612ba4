-- Steps on one record in a row, each carried out; and what the code that makes many of them at once requires and answers.
use Rattle.std.specs.Prelude.{ℕ, ◌<◌, ◌≡◌, not, List}
use Rattle.job.specs.Limits as limit
use Rattle.rings.specs.Progress.{Due, is_done}
use Rattle.lone.specs.Forest.{ok}
use Rattle.store.specs.Field.{rc, MARK, PRESENT}
use Rattle.store.specs.Words.{put, view}
use Rattle.store.specs.Sound.{due_at, mark_of}
use Rattle.acts.specs.Step.{outcome}
use Rattle.acts.specs.Run.{step_words}
use Rattle.steps.specs.declared.coming.Coming.{Coming}
use Rattle.steps.specs.declared.coming.Coming.TheVariants.{Step, Drop}
use Rattle.steps.specs.declared.glide.WalkEnd.{WalkEnd}
use Rattle.steps.specs.declared.glide.WalkEnd.TheVariants.{At, Gone, Past}
use Rattle.turns.specs.Form.{raised, geometry_of}
use Rattle.store.specs.Good.{SoundWords}
use Rattle.turns.specs.Reads.{Steps}
use Rattle.steps.specs.Expects.{Expects, coming_if}

-- none or more steps on record i, each carried out, lead from the words w to others
pub data Glided (i : ℕ) (w : List ℕ) : List ℕ → Type 0 where
  still : Glided i w w
  onward : (u v : List ℕ) → Glided i w u → outcome ok v ≡ step_words (geometry_of (view u)) raised u i → Glided i w v

-- they lead to the words v, and c comes next there
pub record Glides (i : ℕ) (w v : List ℕ) (c : Coming) : Type 0 where
  pub glided : Glided i w v
  pub sound : SoundWords v
  pub expects : Expects c v i

-- an unfinished closed ring at a step due
pub record DueAt (d : Due) (w : List ℕ) (i : ℕ) : Type 0 where
  pub steps : Steps w i
  pub due : due_at (view w) i ≡ d

-- the words after a walk: its end is the present place; past the loop's end the mark is m
abbrev pub leaves : ℕ → List ℕ → ℕ → WalkEnd → List ℕ
leaves m w i (At x) = put (rc PRESENT) w i x
leaves m w i (Gone x) = put (rc PRESENT) w i x
leaves m w i (Past x) = put (rc MARK) (put (rc PRESENT) w i x) i m

abbrev pub place_of : WalkEnd → ℕ
place_of (At x) = x
place_of (Gone x) = x
place_of (Past x) = x

-- what comes next after the walk; past the loop's end it is c
abbrev pub coming_by : Coming → WalkEnd → Coming
coming_by c (At x) = Step
coming_by c (Gone x) = Drop x
coming_by c (Past x) = c

-- the walk is as many steps, if e is due after the loop
pub record GlidesTo (e : Due) (w : List ℕ) (i : ℕ) (r : WalkEnd) : Type 0 where
  pub glides : Glides i w (leaves (mark_of e) w i r) (coming_by (coming_if (not (is_done e))) r)
  pub low : place_of r < limit.POINTS
