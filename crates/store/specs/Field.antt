-- The layout: every column of the work space by its name, where it begins and how long it is. The only file of definitions with numbers of words.
use Rattle.std.specs.Prelude.{ℕ, ◌+◌, ◌*◌, Bool, false, eqb}
use Rattle.job.specs.Limits as limit
pub use Rattle.job.specs.Limits.{NONE}

-- a point's fields
pub data PointCol : Type 0 where
  X Y NEXT PREV REC Z : PointCol

-- a record's fields: FIRST is its first point, MARK its progress mark, PRESENT its present place, START where its loop began, CUT the record it was cut from,
-- REASON why it has no ring, TAKER the record that took it in a join
pub data RecordCol : Type 0 where
  FLAGS OWNER FIRST MARK PRESENT START CUT REASON TAKER : RecordCol

-- the settings, and how many points and records are in use
pub data Count : Type 0 where
  SETTINGS POINTS RECORDS : Count

-- a column; there is no other index into the words of points and records
pub data Field : Type 0 where
  pt : PointCol → Field
  rc : RecordCol → Field
  ct : Count → Field

-- the order of the columns
abbrev pub point_rank : PointCol → ℕ
point_rank X = 0
point_rank Y = 1
point_rank NEXT = 2
point_rank PREV = 3
point_rank REC = 4
point_rank Z = 5

abbrev pub record_rank : RecordCol → ℕ
record_rank FLAGS = 0
record_rank OWNER = 1
record_rank FIRST = 2
record_rank MARK = 3
record_rank PRESENT = 4
record_rank START = 5
record_rank CUT = 6
record_rank REASON = 7
record_rank TAKER = 8

abbrev pub count_rank : Count → ℕ
count_rank SETTINGS = 0
count_rank POINTS = 1
count_rank RECORDS = 2

-- the settings and the counts stand at the front, in a head of this many words; then the points' columns, then the records'
abbrev pub HEAD : ℕ
HEAD = 16

-- how many words a column has, and where it begins
abbrev pub size : Field → ℕ
size (ct f) = 1
size (pt f) = limit.POINTS
size (rc f) = limit.RECORDS

abbrev pub base : Field → ℕ
base (ct f) = count_rank f
base (pt f) = HEAD + limit.POINTS * point_rank f
base (rc f) = HEAD + limit.POINTS * 6 + limit.RECORDS * record_rank f

-- the same column
abbrev pub same : Field → Field → Bool
same (pt f) (pt g) = eqb (point_rank f) (point_rank g)
same (pt f) (rc g) = false
same (pt f) (ct g) = false
same (rc f) (pt g) = false
same (rc f) (rc g) = eqb (record_rank f) (record_rank g)
same (rc f) (ct g) = false
same (ct f) (pt g) = false
same (ct f) (rc g) = false
same (ct f) (ct g) = eqb (count_rank f) (count_rank g)

-- behind the columns, the four words of each record's box: the least x of every record, then the least y, the greatest x, the greatest y
abbrev pub BOXES : ℕ
BOXES = HEAD + limit.POINTS * 6 + limit.RECORDS * 9

-- the live block: all columns, and the boxes. A work space begins with it
abbrev pub BLOCK : ℕ
BLOCK = BOXES + limit.RECORDS * 4

-- how many states may be kept
abbrev pub STATES : ℕ
STATES = 4

-- after the live block a word for each place says its name, and then a copy of the block stands for each
abbrev pub NAMES : ℕ
NAMES = BLOCK

abbrev pub KEPT : ℕ
KEPT = NAMES + STATES

-- the fixed length of a work space
abbrev pub LENGTH : ℕ
LENGTH = KEPT + STATES * BLOCK
