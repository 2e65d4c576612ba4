-- Words that may be finished, and the measure that falls with each step.
use Rattle.std.specs.Prelude.{ℕ, ◌-◌, List}
use Rattle.job.specs.Limits.{POINTS}
use Rattle.rings.specs.Progress.{Ring, map_ring}
use Rattle.lone.specs.Lone.{Geo}
use Rattle.lone.specs.Forest.{Forest}
use Rattle.lone.specs.Measure.{measure}
use Rattle.lone.specs.Kept.{HeldIn}
use Rattle.store.specs.Words.{view}
use Rattle.store.specs.Sound.{pts, lone_at}
use Rattle.acts.specs.Apply.{Coding}
use Rattle.acts.specs.Rep.{RepW}
use Rattle.acts.specs.Value.{value}

module _ {P : Type 0} (G : Geo P) (f : Coding P) where
  -- words that may be finished: in step with a forest whose rings are as steps leave them
  pub record MayFinish (w : List ℕ) : Type 0 where
    pub forest : Forest (Ring P) (List P)
    pub rep : RepW f w forest
    pub held : HeldIn POINTS forest

  -- "a measure of free places, ring size and walk left", of record i
  unfoldable pub words_left : List ℕ → ℕ → ℕ
  words_left w i = measure POINTS (POINTS - pts (view w)) (map_ring (value f.of (view w)) (lone_at (view w) i))
