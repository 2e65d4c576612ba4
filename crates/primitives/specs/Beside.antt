-- What unlinking a point and copying one leave, and what they ask.
use Rattle.std.specs.Prelude.{ℕ, ◌≤◌, ◌<◌, List, length}
use Rattle.job.specs.Limits as limit
use Rattle.store.specs.Field.{BLOCK, NONE}
use Rattle.store.specs.Words.{on_words}
use Rattle.store.specs.Named.{next_of, prev_of, set_first}
use Rattle.primitives.specs.Primitive.{unlink_writes}

-- `dispose_out_pt`: op goes out; its next
pub data Disposed : Type 0 where
  disposed : ℕ → List ℕ → Disposed

unfoldable pub dispose_out_pt : List ℕ → ℕ → Disposed
dispose_out_pt w op = disposed (next_of w op) (on_words w (unlink_writes (prev_of w op) (next_of w op)))

-- `dispose_out_pts`: the record is emptied; the points' links are left, which nothing reads
abbrev pub dispose_out_pts : List ℕ → ℕ → List ℕ
dispose_out_pts w i = set_first w i NONE

-- op and its neighbours are places of points
pub record Beside (w : List ℕ) (op : ℕ) : Type 0 where
  pub long : BLOCK ≤ length w
  pub here : op < limit.POINTS
  pub next : next_of w op < limit.POINTS
  pub prev : prev_of w op < limit.POINTS
