-- The code's columns are the layout's.
use Rattle.store.specs.declared.Col.{Col}
use Rattle.store.specs.declared.Col.TheVariants.{X, Y, Next, Prev, Rec, Z, Flags, Owner, First, Mark, Present, Start, Cut, Reason, Taker, Settings, Points, Records}
use Rattle.store.specs.Field.{Field, pt, rc, ct}
use Rattle.store.specs.Field as f

-- the column that a value of the code's enum names
abbrev pub column_of : Col → Field
column_of X = pt f.X
column_of Y = pt f.Y
column_of Next = pt f.NEXT
column_of Prev = pt f.PREV
column_of Rec = pt f.REC
column_of Z = pt f.Z
column_of Flags = rc f.FLAGS
column_of Owner = rc f.OWNER
column_of First = rc f.FIRST
column_of Mark = rc f.MARK
column_of Present = rc f.PRESENT
column_of Start = rc f.START
column_of Cut = rc f.CUT
column_of Reason = rc f.REASON
column_of Taker = rc f.TAKER
column_of Settings = ct f.SETTINGS
column_of Points = ct f.POINTS
column_of Records = ct f.RECORDS
