-- What the closed, or the open, paths of a store come to: how many, and how many bytes their fields have.
use Rattle.std.specs.Prelude.{ℕ, ◌+◌, ◌*◌, ◌≤◌, ◌≡◌, Bool, cond, List, eqb, length}
use Rattle.job.specs.Limits.{POINTS}
use Rattle.store.specs.Words.{Store, view}
use Rattle.store.specs.Sound.{recs}
use Rattle.paths.specs.declared.Need.{Need}
use Rattle.paths.specs.Path.{paths_below}
use Rattle.paths.specs.Tray.{POINT, tag_of, fields}

-- how many paths: none where there are 0 points, or a field of 0 bytes
abbrev pub path_count : ℕ → ℕ
path_count k = cond (eqb k 0) 0 1

-- the bytes of the field of a path of k points, 0 for no path
abbrev pub field_size : ℕ → ℕ
field_size k = cond (eqb k 0) 0 (3 + POINT * k)

unfoldable pub need_of : Store → Bool → Need
need_of s o = record { paths = length (paths_below (recs s) o s); bytes = length (fields (tag_of o) (paths_below (recs s) o s)) }

-- the bytes of the records below i are counted
pub record Tally (w : List ℕ) (o : Bool) (i bytes : ℕ) : Type 0 where
  pub within : i ≤ recs (view w)
  pub bytes_are : bytes ≡ length (fields (tag_of o) (paths_below i o (view w)))
  pub few_bytes : bytes ≤ i * (3 + POINT * POINTS)

-- the paths of the records below i are counted
pub record PathsSoFar (w : List ℕ) (o : Bool) (i paths : ℕ) : Type 0 where
  pub are : paths ≡ length (paths_below i o (view w))
  pub few : paths ≤ i
