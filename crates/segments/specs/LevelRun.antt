-- A level run is level and maximal. A run is walked from p along next or prev, and ended by one of three tests (specs/Level); `Ends` is what ends it besides another height.
use Rattle.std.specs.Prelude.{ℕ, zero, suc, ◌<◌, ◌≡◌, ◌≢◌, ◌⊎◌, Bool, true, false, List}
use Rattle.job.specs.Limits as limit
use Rattle.store.specs.Named.{next_of, first_of}
use Rattle.segments.specs.Level.{x_of, y_of, along_of}
use Rattle.segments.specs.Update.{has_front, ends_of}

-- p moved k times
abbrev pub moved : ℕ → (ℕ → ℕ) → ℕ → ℕ
moved zero g p = p
moved (suc k) g p = g (moved k g p)

-- the three: p is the wall; the point after p is the other end; the point after p is to the right of the limit
abbrev pub AtWall : ℕ → ℕ → Type 0
AtWall wall p = p ≡ wall

abbrev pub AtStop : List ℕ → Bool → ℕ → ℕ → Type 0
AtStop w on stop p = along_of w on p ≡ stop

abbrev pub AtLimit : List ℕ → Bool → ℕ → ℕ → Type 0
AtLimit w on far p = far < x_of w (along_of w on p)

-- the run from p to q
pub record RunTo (w : List ℕ) (on : Bool) (y : ℕ) (Ends : ℕ → Type 0) (p q : ℕ) : Type 0 where
  pub many : ℕ
  pub few : many < limit.POINTS
  pub to : moved many (along_of w on) p ≡ q
  -- level: each point that it moves on to is at height y
  pub level : (k : ℕ) → k < many → y_of w (moved (suc k) (along_of w on) p) ≡ y
  -- nothing ended it before
  pub free : (k : ℕ) → k < many → Ends (moved k (along_of w on) p) → ⊥
  -- maximal: it cannot be prolonged
  pub maximal : Ends q ⊎ (y_of w (along_of w on q) ≢ y)

-- both runs from a segment's point op, whose own height is theirs; op is on the ring of record i. With a front edge the walls are the first point ahead and its next behind; without one
-- the run ends behind at op itself, all round, and ahead at that end
pub record LevelRun (w : List ℕ) (op i : ℕ) : Type 0 where
  pub walled : has_front w i ≡ true → RunTo w false (y_of w op) (AtWall (next_of w (first_of w i))) op (ends_of w op i).back × RunTo w true (y_of w op) (AtWall (first_of w i)) op (ends_of w op i).ahead
  pub open_ended : has_front w i ≡ false → RunTo w false (y_of w op) (AtStop w false op) op (ends_of w op i).back × RunTo w true (y_of w op) (AtStop w true (ends_of w op i).back) op (ends_of w op i).ahead
