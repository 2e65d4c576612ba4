-- Words by name: what a field of a point or of a record reads, and the words with another number there. Definitions are written with these, as the Rust
-- reads and writes the fields of its arenas.
use Rattle.std.specs.Prelude.{ℕ, List}
use Rattle.rings.specs.Walk.{walk}
use Rattle.store.specs.Field.{pt, rc, ct, NEXT, PREV, REC, FLAGS, OWNER, FIRST, MARK, PRESENT, CUT, REASON, TAKER, SETTINGS, POINTS, RECORDS}
use Rattle.store.specs.Words.{view, put}

-- ---- the counts

abbrev pub settings_of : List ℕ → ℕ
settings_of w = view w (ct SETTINGS) 0

abbrev pub points_of : List ℕ → ℕ
points_of w = view w (ct POINTS) 0

abbrev pub records_of : List ℕ → ℕ
records_of w = view w (ct RECORDS) 0

-- ---- a point's fields

abbrev pub next_of : List ℕ → ℕ → ℕ
next_of w i = view w (pt NEXT) i

abbrev pub prev_of : List ℕ → ℕ → ℕ
prev_of w i = view w (pt PREV) i

abbrev pub rec_of : List ℕ → ℕ → ℕ
rec_of w i = view w (pt REC) i

-- ---- a record's fields

abbrev pub flags_of : List ℕ → ℕ → ℕ
flags_of w i = view w (rc FLAGS) i

abbrev pub owner_of : List ℕ → ℕ → ℕ
owner_of w i = view w (rc OWNER) i

abbrev pub first_of : List ℕ → ℕ → ℕ
first_of w i = view w (rc FIRST) i

abbrev pub progress_of : List ℕ → ℕ → ℕ
progress_of w i = view w (rc MARK) i

abbrev pub present_of : List ℕ → ℕ → ℕ
present_of w i = view w (rc PRESENT) i

abbrev pub cut_from : List ℕ → ℕ → ℕ
cut_from w i = view w (rc CUT) i

abbrev pub kept_of : List ℕ → ℕ → ℕ
kept_of w i = view w (rc REASON) i

abbrev pub taker_of : List ℕ → ℕ → ℕ
taker_of w i = view w (rc TAKER) i

-- ---- the words with another number there

abbrev pub set_records : List ℕ → ℕ → List ℕ
set_records w v = put (ct RECORDS) w 0 v

abbrev pub set_next : List ℕ → ℕ → ℕ → List ℕ
set_next w i v = put (pt NEXT) w i v

abbrev pub set_prev : List ℕ → ℕ → ℕ → List ℕ
set_prev w i v = put (pt PREV) w i v

abbrev pub set_rec : List ℕ → ℕ → ℕ → List ℕ
set_rec w i v = put (pt REC) w i v

abbrev pub set_owner : List ℕ → ℕ → ℕ → List ℕ
set_owner w i v = put (rc OWNER) w i v

abbrev pub set_first : List ℕ → ℕ → ℕ → List ℕ
set_first w i v = put (rc FIRST) w i v

-- ---- rings

-- the ring that starts at point a, in walk order
abbrev pub ring_of : List ℕ → ℕ → List ℕ
ring_of w a = walk (next_of w) a
