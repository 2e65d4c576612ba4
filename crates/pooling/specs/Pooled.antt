-- Two drawings on one table, as a store: document 02, Ask 11, "Laying them together puts the second's points and records after the first's, in the first's work space, with numbers raised to fit, none staying none".
-- A new column says here what its numbers name, and nothing else changes. The boxes, behind the columns, name nothing (Words, `lay_sides`).
use Rattle.std.specs.Prelude.{ℕ, zero, suc, ◌+◌, ◌-◌, cond, ltb}
use Rattle.store.specs.Field.{PointCol, RecordCol, Count, pt, rc, ct, X, Y, NEXT, PREV, REC, Z, FLAGS, OWNER, FIRST, MARK, PRESENT, START, CUT, REASON, TAKER, SETTINGS, POINTS, RECORDS}
use Rattle.store.specs.Words.{Store}
use Rattle.store.specs.Sound.{pts, recs}
use Rattle.pooling.specs.declared.Used.{Used}

-- what a column's numbers name: nothing, points, or records
pub data ColumnKind : Type 0 where
  plain points records : ColumnKind

abbrev pub point_kind : PointCol → ColumnKind
point_kind X = plain
point_kind Y = plain
point_kind NEXT = points
point_kind PREV = points
point_kind REC = records
point_kind Z = plain

abbrev pub record_kind : RecordCol → ColumnKind
record_kind FLAGS = plain
record_kind OWNER = records
record_kind FIRST = points
record_kind MARK = plain
record_kind PRESENT = points
record_kind START = points
record_kind CUT = records
record_kind REASON = plain
record_kind TAKER = records

-- a number that names one of n things is raised by m; one that names none of them stays, 65,535 too
unfoldable pub raise : ℕ → ℕ → ℕ → ℕ
raise m n v = cond (ltb v n) (m + v) v

-- the points and records that are in use, and how many things of a kind there are
abbrev pub used_in : Store → Used
used_in s = record { points = pts s; records = recs s }

abbrev pub how_many : ColumnKind → Used → ℕ
how_many plain c = 0
how_many points c = c.points
how_many records c = c.records

-- a number of the second, where the first has a and the second b things
abbrev pub raise_as : ColumnKind → Used → Used → ℕ → ℕ
raise_as k a b v = raise (how_many k a) (how_many k b) v

-- a column with n numbers of another after its first m
unfoldable pub followed : ℕ → ℕ → (ℕ → ℕ) → (ℕ → ℕ) → ℕ → ℕ
followed m n a b i = cond (ltb i m) (a i) (cond (ltb i (m + n)) (b (i - m)) (a i))

-- the settings are the first's; the counts are added
abbrev pub pooled_count : Count → Store → Store → ℕ → ℕ
pooled_count SETTINGS s t i = s (ct SETTINGS) i
pooled_count POINTS s t zero = pts s + pts t
pooled_count POINTS s t (suc i) = s (ct POINTS) (suc i)
pooled_count RECORDS s t zero = recs s + recs t
pooled_count RECORDS s t (suc i) = s (ct RECORDS) (suc i)

-- the first's columns, each followed by the second's, raised
abbrev pub pooled : Store → Store → Store
pooled s t (pt f) = followed (pts s) (pts t) (s (pt f)) (λ k. raise_as (point_kind f) (used_in s) (used_in t) (t (pt f) k))
pooled s t (rc f) = followed (recs s) (recs t) (s (rc f)) (λ i. raise_as (record_kind f) (used_in s) (used_in t) (t (rc f) i))
pooled s t (ct f) = pooled_count f s t
