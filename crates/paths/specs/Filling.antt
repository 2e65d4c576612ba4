-- What the writers of fields require, and what they leave.
use Rattle.std.specs.Prelude.{ℕ, ◌*◌, ◌≤◌, ◌≡◌, Bool, false, List, length}
use Rattle.geometry.specs.declared.Point.{Point}
use Rattle.lone.specs.Plane.{plane}
use Rattle.lone.specs.Path.{in_order, without_equals}
use Rattle.store.specs.Words.{Store, view}
use Rattle.store.specs.Sound.{recs, ringless}
use Rattle.store.specs.Value.{preserve_collinear}
use Rattle.paths.specs.Path.{points_at, path_if, listed, paths_below}
use Rattle.paths.specs.Tray.{POINT, tag_of, fields, fields_of, over}
use Rattle.paths.specs.Walking.{Known, Directed, Asked, Laid, laid}

-- the points of record i's path, if it has one
abbrev pub path_points : Store → Bool → ℕ → List Point
path_points s rev i = without_equals (plane (preserve_collinear s)) (in_order rev (points_at s i))

-- the field, or none, of record i
unfoldable pub field_at : Store → Bool → ℕ → List ℕ
field_at s o i = fields (tag_of o) (listed (path_if s o i))

-- those of the records below n
unfoldable pub fields_below : ℕ → Store → Bool → List ℕ
fields_below n s o = fields (tag_of o) (paths_below n o s)

-- bytes laid over a tray, and how many
abbrev pub lay_over : List ℕ → List ℕ → Laid
lay_over bytes t = laid (length bytes) (over bytes t)

pub record PointsFit (w : List ℕ) (rev : Bool) (i : ℕ) (t : List ℕ) : Type 0 where
  pub of : Known w i
  pub ringed : ringless (view w) i ≡ false
  pub room : POINT * length (path_points (view w) rev i) ≤ length t

pub record FieldFits (w : List ℕ) (rev o : Bool) (i : ℕ) (t : List ℕ) : Type 0 where
  pub asked : Asked w rev i
  pub room : length (field_at (view w) o i) ≤ length t

pub record FieldsFit (w : List ℕ) (rev o : Bool) (t : List ℕ) : Type 0 where
  pub directed : Directed w rev
  pub room : length (fields_below (recs (view w)) (view w) o) ≤ length t

pub record AllFit (w : List ℕ) (rev : Bool) (t : List ℕ) : Type 0 where
  pub directed : Directed w rev
  pub room : length (fields_of (view w)) ≤ length t

-- the fields of the records below i are written
pub record Filled (w : List ℕ) (o : Bool) (i at : ℕ) (t₀ t : List ℕ) : Type 0 where
  pub within : i ≤ recs (view w)
  pub at_is : at ≡ length (fields_below i (view w) o)
  pub tray_is : t ≡ over (fields_below i (view w) o) t₀
  pub room : length (fields_below (recs (view w)) (view w) o) ≤ length t₀
