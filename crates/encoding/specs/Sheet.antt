-- A job as numbers, and its bytes: document 01, "The job". What reading (crate reading) takes apart.
use Rattle.std.specs.Prelude.{ℕ, List, [], ◌∷◌, ◌++◌, length}
use Rattle.rings.specs.Count.{table}
use Rattle.numbers.specs.Raised.{lowered}
use Rattle.job.specs.Limits as limit
use Rattle.job.specs.declared.field.Field.{Field}
use Rattle.job.specs.declared.field.Field.TheVariants.{Settings, Point, Record, Segment, Join}
use Rattle.paths.specs.Tray.{low_bytes}

-- "tag one byte, length two bytes, value"
abbrev pub with_header : ℕ → List ℕ → List ℕ
with_header tag value = tag ∷ low_bytes 2 (length value) ++ value

-- a coordinate's word is lowered to its two's complement
abbrev pub coordinate_bytes : ℕ → List ℕ
coordinate_bytes x = low_bytes 4 (lowered limit.COORDINATE x)

abbrev pub bytes_of : Field → List ℕ
bytes_of (Settings bits) = with_header 1 (low_bytes 1 bits)
bytes_of (Point x y next prev rec z) = with_header 2 (coordinate_bytes x ++ coordinate_bytes y ++ low_bytes 2 next ++ low_bytes 2 prev ++ low_bytes 2 rec ++ low_bytes 4 z)
bytes_of (Record flags owner first) = with_header 3 (low_bytes 1 flags ++ low_bytes 2 owner ++ low_bytes 2 first)
bytes_of (Segment p) = with_header 4 (low_bytes 2 p)
bytes_of (Join a b) = with_header 5 (low_bytes 2 a ++ low_bytes 2 b)

abbrev pub all_bytes : List Field → List ℕ
all_bytes [] = []
all_bytes (f ∷ fs) = bytes_of f ++ all_bytes fs

-- the numbers of a job: the settings, the counts, and for each point, record, segment and join its own
pub record Sheet : Type 0 where
  pub bits : ℕ
  pub points : ℕ
  pub records : ℕ
  pub segments : ℕ
  pub joins : ℕ
  pub x : ℕ → ℕ
  pub y : ℕ → ℕ
  pub next : ℕ → ℕ
  pub prev : ℕ → ℕ
  pub rec : ℕ → ℕ
  pub z : ℕ → ℕ
  pub flags : ℕ → ℕ
  pub owner : ℕ → ℕ
  pub first : ℕ → ℕ
  pub segment : ℕ → ℕ
  pub one : ℕ → ℕ
  pub two : ℕ → ℕ

module _ (t : Sheet) where
  abbrev pub point_field : ℕ → Field
  point_field k = Point (t.x k) (t.y k) (t.next k) (t.prev k) (t.rec k) (t.z k)

  abbrev pub record_field : ℕ → Field
  record_field i = Record (t.flags i) (t.owner i) (t.first i)

  abbrev pub segment_field : ℕ → Field
  segment_field i = Segment (t.segment i)

  abbrev pub join_field : ℕ → Field
  join_field i = Join (t.one i) (t.two i)

  -- settings "first, once", then the fields kind by kind: "Tags never fall"
  abbrev pub sheet_fields : List Field
  sheet_fields =
      Settings t.bits
      ∷ (table point_field 0 t.points
      ++ (table record_field 0 t.records
      ++ (table segment_field 0 t.segments
      ++ table join_field 0 t.joins)))

  abbrev pub sheet_bytes : List ℕ
  sheet_bytes = all_bytes sheet_fields
