-- What the functions of the listing ask of a tray, and what their loops keep.
use Rattle.std.specs.Prelude.{ℕ, zero, suc, ◌+◌, ◌*◌, ◌^◌, ◌≤◌, ◌≡◌, List, ◌++◌, ℤ, nat_abs, ◌+ℤ◌, length, Bool}
use Rattle.job.specs.Limits.{POINTS}
use Rattle.rings.specs.Count.{sum_by}
use Rattle.geometry.specs.declared.Point.{Point}
use Rattle.geometry.specs.Plane.{area_from}
use Rattle.geometry.specs.Table.{InTable, AllInTable}
use Rattle.paths.specs.Tray.{POINT}
use Rattle.listing.specs.Fields.{next_field, path_in, point_in, points_in, paths_in, field_after}
use Rattle.text.specs.Pour.{poured, pour}
use Rattle.listing.specs.Lines.{lines_of, points_text}
use Rattle.listing.specs.Charge.{net_area}
use Rattle.std.specs.Prelude.{Option, Some, None}

-- a point within the tray and within the limit
pub record Held (t : List ℕ) (at : ℕ) : Type 0 where
  pub inside : at + POINT ≤ length t
  pub small : InTable (point_in t at)

-- n points within the tray and within the limit
pub record Run (t : List ℕ) (n at : ℕ) : Type 0 where
  pub inside : at + POINT * n ≤ length t
  pub small : AllInTable (points_in t n at)

-- the same of one path: there are no more than a field's length allows
pub record Sized (t : List ℕ) (n at : ℕ) : Type 0 where
  pub run : Run t n at
  pub few : n ≤ 8191

-- a doubled area in the making: a is the sum so far, `left` points are left, the last one added is at `prev`
pub record Adding (t : List ℕ) (prev at left : ℕ) (a total : ℤ) : Type 0 where
  pub before : Held t prev
  pub rest : Run t left at
  pub sum : a +ℤ area_from (point_in t prev) (points_in t left at) ≡ total
  pub low : nat_abs a + left * 2 ^ 42 ≤ 2 ^ 56

-- a field that lies within the tray, of points within the limit
pub record FieldIn (t : List ℕ) (at : ℕ) : Type 0 where
  pub head : at + 3 ≤ length t
  pub inside : next_field t at ≤ length t
  pub small : AllInTable (path_in t at)

-- n fields, one after another
abbrev pub FieldsIn : List ℕ → ℕ → ℕ → Type 0
FieldsIn t zero at = at ≤ length t
FieldsIn t (suc n) at = FieldIn t at × FieldsIn t n (next_field t at)

-- ---- a path's points in the making: `done` is poured, `left` points are left
pub record Showing (t : List ℕ) (from n at : ℕ) (out₀ out : List ℕ) (k f left : ℕ) : Type 0 where
  pub rest : Run t left f
  pub done : List ℕ
  pub is : poured k out ≡ pour done at out₀
  pub all : done ++ points_text (points_in t left f) ≡ points_text (points_in t n from)

-- ---- lines in the making: `left` fields are left, the first of them at f
pub record Going (t : List ℕ) (from count : ℕ) (rev o : Bool) (at : ℕ) (out₀ out : List ℕ) (k f left : ℕ) : Type 0 where
  pub rest : FieldsIn t left f
  pub done : List ℕ
  pub is : poured k out ≡ pour done at out₀
  pub all : done ++ lines_of rev o (paths_in t left f) ≡ lines_of rev o (paths_in t count from)
  pub after : field_after t left f ≡ field_after t count from

-- there was room for all of the text, in a slice of n bytes
abbrev pub Whole : Option ℕ → ℕ → Type 0
Whole (Some m) n = m ≤ n
Whole None n = ⊥

-- a tray that begins with fields of so many closed and then so many open paths, their points within the limit
pub record Listable (closed open' : ℕ) (t : List ℕ) : Type 0 where
  pub closed_in : FieldsIn t closed 0
  pub open_in : FieldsIn t open' (field_after t closed 0)

-- ---- the charge

-- how many points the paths have
abbrev pub point_count : List (List Point) → ℕ
point_count ps = sum_by length ps

-- n closed paths, of no more points than a job has
pub record Summable (t : List ℕ) (n : ℕ) : Type 0 where
  pub fields : FieldsIn t n 0
  pub few : point_count (paths_in t n 0) ≤ POINTS

-- the sum in the making: a is the sum so far, `left` fields are left, the first of them at f
pub record Netting (t : List ℕ) (n f left : ℕ) (a : ℤ) : Type 0 where
  pub rest : FieldsIn t left f
  pub sum : a +ℤ net_area (paths_in t left f) ≡ net_area (paths_in t n 0)
  pub low : nat_abs a + point_count (paths_in t left f) * 2 ^ 42 ≤ 2 ^ 53
