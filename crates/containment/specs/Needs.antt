-- What the functions of this crate ask, and what their loops keep; no statement needs it.
use Rattle.std.specs.Prelude.{ℕ, ◌+◌, ◌-◌, ◌*◌, ◌≤◌, ◌<◌, ◌≡◌, List, ◌++◌, length}
use Rattle.job.specs.Limits.{RECORDS}
use Rattle.geometry.specs.declared.Point.{Point}
use Rattle.geometry.specs.declared.Rect.{Rect}
use Rattle.std.specs.Prelude.{Result, Ok, Err}
use Rattle.job.specs.declared.refusal.Refusal.{Refusal}
use Rattle.paths.specs.declared.Written.{Written}
use Rattle.text.specs.Pour.{poured, pour}
use Rattle.listing.specs.Fields.{path_in, paths_in, field_after}
use Rattle.listing.specs.Needs.{FieldsIn}
use Rattle.containing.specs.Outside.{AllEnclosed}
use Rattle.path_boxes.specs.Table.{rect_at, Boxed}
use Rattle.containment.specs.Answers.{row, rows, pair_answers, pair_count}

-- a tray whose first c fields hold paths
pub record Fielded (t : List ℕ) (c : ℕ) : Type 0 where
  pub all_in : FieldsIn t c 0
  pub few : c ≤ RECORDS

-- path number i of them begins at f
pub record FieldOf (t : List ℕ) (c i f : ℕ) : Type 0 where
  pub fielded : Fielded t c
  pub low : i ≤ c
  pub at_is : f ≡ field_after t i 0

-- box number j encloses the path of the field at g
pub record BoxFor (t : List ℕ) (boxes : List Rect) (j g : ℕ) : Type 0 where
  pub room : j < length boxes
  pub within : AllEnclosed (rect_at boxes j) (path_in t g)

-- the fields from `from` on, of which the first is number `first`, have boxes
pub record BoxesFrom (t : List ℕ) (boxes : List Rect) (first from count : ℕ) : Type 0 where
  pub known : ℕ
  pub boxed : Boxed t boxes known
  pub few : first + count ≤ known
  pub at_is : from ≡ field_after t first 0

-- ---- loops in the making: `done` is poured
pub record Rowing (t : List ℕ) (boxes : List Rect) (p : List Point) (at : ℕ) (out₀ : List ℕ) (total : List ℕ) (out : List ℕ) (k j g left : ℕ) : Type 0 where
  pub rest : FieldsIn t left g
  pub boxes_from : BoxesFrom t boxes j g left
  pub done : List ℕ
  pub is : poured k out ≡ pour done at out₀
  pub all : done ++ row p (paths_in t left g) ≡ total

pub record AllPairs (t : List ℕ) (c : ℕ) (out₀ out : List ℕ) (k f i : ℕ) : Type 0 where
  pub placed : FieldOf t c i f
  pub done : List ℕ
  pub is : poured k out ≡ pour done 0 out₀
  pub all : done ++ rows (paths_in t i 0) (paths_in t (c - i) f) ≡ pair_answers (paths_in t c 0)

-- what a call answered is in a slice of n bytes
abbrev pub AnswersWithin : Result Written Refusal → ℕ → Type 0
AnswersWithin (Ok p) n = (p.closed ≤ RECORDS) × (pair_count p.closed ≤ n)
AnswersWithin (Err x) n = Unit {0}
