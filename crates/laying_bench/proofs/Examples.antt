-- Worked examples: which refusal comes first, which numbers are raised, what stays, which boxes come.
use Prim.Native.Nat.{ℕ, ◌+◌}
use mathlib.Core.Path.{◌≡◌, refl}
use mathlib.Core.Bool.{true, false, cond}
use mathlib.Core.List.{List, [], ◌∷◌, ◌++◌}
use lib.ListN.{get_or, set, replicate}
use Rattle.std.specs.Prelude.{Result, Ok, Err}
use Rattle.job.specs.declared.refusal.Refusal.{Refusal}
use Rattle.job.specs.declared.refusal.Refusal.TheVariants.{Crowded, NoSuch, Muddled, Full, OutOfTurn, SettingsDiffer}
use Rattle.rings.specs.Walk.{run}
use Rattle.geometry.specs.Box.{widen}
use Rattle.store.specs.declared.boxed.Sides.{Sides}
use Rattle.store.specs.Field.{PointCol, RecordCol, pt, rc, ct, X, Y, NEXT, PREV, REC, Z, FLAGS, OWNER, FIRST, MARK, PRESENT, START, CUT, REASON, TAKER, SETTINGS, POINTS, RECORDS, NONE, NAMES, LENGTH}
use Rattle.store.specs.Words.{Store, Write, write, cell, put, on_words}
use Rattle.store.specs.Reason.{NO_RING}
use Rattle.store.specs.Boxes.{sides_at, set_sides, ring_box, misboxed}
use Rattle.audit.specs.Tests.{any_below, reach, reached_by, tests_of}
use Rattle.handed.specs.Handed.{any_misboxed, kept_twice, tested_of}
use Rattle.pooling.specs.Pooled.{raise, followed, pooled}
use Rattle.pooling.specs.Words.{lay_column, lay_sides, lay_all}
use Rattle.laying.specs.Lay.{crowd, is_stepped, any_stepped, lay_room, lay_tested, lay_of}

-- ---- the call, on whole work spaces

abbrev work : List Write → List ℕ
work xs = on_words (replicate LENGTH 0) xs

abbrev short : List ℕ
short = replicate 100 0

abbrev points : ℕ → Write
points n = write (ct POINTS) 0 n

abbrev settings : ℕ → Write
settings n = write (ct SETTINGS) 0 n

-- one record, closed, a ring of one point; it says that it was cut from a record, or not
abbrev cut_off : List Write
cut_off = points 1 ∷ write (ct RECORDS) 0 1 ∷ []

abbrev at_start : List Write
at_start = cut_off ++ write (rc CUT) 0 NONE ∷ []

abbrev says : List ℕ → List ℕ → Result (Unit {0}) Refusal
says w v = (lay_of w v).answer

-- the definitions that the rows compute with
unfoldable computing : Unit {0}
unfolding lay_of lay_tested lay_room lay_all lay_column lay_sides raise is_stepped any_stepped tested_of any_misboxed misboxed ring_box widen set_sides kept_twice tests_of any_below reach reached_by run cell put
computing = tt

first_length : says short (work []) ≡ Err Full
unfolding computing
first_length = refl

-- "once both work spaces have passed their lengths": the second's before the first's tests
second_length : says (work (points 2049 ∷ [])) short ≡ Err Full
unfolding computing
second_length = refl

-- "then their own tests, the first's first"
first_tests : says (work (points 2049 ∷ [])) (work (cut_off ++ write (rc OWNER) 0 7 ∷ [])) ≡ Err Crowded
unfolding computing
first_tests = refl

-- the names among them
name_twice : says (set (set (work []) NAMES 5) (2 + NAMES) 5) (work (points 2049 ∷ [])) ≡ Err Muddled
unfolding computing
name_twice = refl

-- the second's before 16
second_tests : says (work (settings 1 ∷ [])) (work (cut_off ++ write (rc OWNER) 0 7 ∷ [])) ≡ Err NoSuch
unfolding computing
second_tests = refl

-- 16 before 12; bytes, not bits; and the low byte only
settings_first : says (work (settings 1 ∷ cut_off)) (work []) ≡ Err SettingsDiffer
unfolding computing
settings_first = refl

bytes_differ : says (work []) (work (settings 4 ∷ [])) ≡ Err SettingsDiffer
unfolding computing
bytes_differ = refl

low_byte : says (work (settings 258 ∷ [])) (work (settings 2 ∷ [])) ≡ Ok tt
unfolding computing
low_byte = refl

-- 12 before the crowd, in either
first_stepped : says (work (cut_off ++ points 1500 ∷ [])) (work (points 1500 ∷ [])) ≡ Err OutOfTurn
unfolding computing
first_stepped = refl

second_stepped : says (work (points 1500 ∷ [])) (work (cut_off ++ points 1500 ∷ [])) ≡ Err OutOfTurn
unfolding computing
second_stepped = refl

-- "then 10 for a crowd"
too_many : says (work (at_start ++ points 1500 ∷ [])) (work (points 1500 ∷ [])) ≡ Err Full
unfolding computing
too_many = refl

-- laid together: the first's names stay, the second's are not brought
names_stay : get_or (lay_of (set (work at_start) NAMES 5) (set (set (work at_start) NAMES 9) (1 + NAMES) 7)).words NAMES 0 ≡ 5
unfolding computing
names_stay = refl

not_brought : get_or (lay_of (set (work at_start) NAMES 5) (set (set (work at_start) NAMES 9) (1 + NAMES) 7)).words (1 + NAMES) 0 ≡ 0
unfolding computing
not_brought = refl

-- ---- boxes

-- a ring of one point at these words, with a box
abbrev point_at : ℕ → ℕ → Sides → List ℕ
point_at x y b = set_sides (work (at_start ++ write (pt X) 0 x ∷ write (pt Y) 0 y ∷ [])) 0 b

abbrev around : ℕ → ℕ → Sides
around x y = record { left = x; top = y; right = x; bottom = y }

-- and a record without a ring, whose box nobody asks
abbrev bare : Sides
bare = record { left = 1; top = 2; right = 3; bottom = 4 }

abbrev and_bare : List ℕ → List ℕ
and_bare w = set_sides (on_words w (write (ct RECORDS) 0 2 ∷ write (rc FIRST) 1 NONE ∷ write (rc CUT) 1 NONE ∷ write (rc REASON) 1 NO_RING ∷ [])) 1 bare

-- "A work space whose box isn't its ring's meets 7", in either
first_misboxed : says (point_at 5 7 (around 5 8)) (work []) ≡ Err Muddled
unfolding computing
first_misboxed = refl

second_misboxed : says (work []) (point_at 5 7 (around 5 8)) ≡ Err Muddled
unfolding computing
second_misboxed = refl

-- the boxes of one record and of two
abbrev pair : List ℕ
pair = (lay_of (point_at 5 7 (around 5 7)) (and_bare (point_at 9 4 (around 9 4)))).words

first_box : sides_at pair 0 ≡ around 5 7
unfolding computing
first_box = refl

second_box : sides_at pair 1 ≡ around 9 4
unfolding computing
second_box = refl

bare_box : sides_at pair 2 ≡ bare
unfolding computing
bare_box = refl

-- ---- the limits of the pair

-- a store with so many points and records in use
abbrev holding : ℕ → ℕ → Store
holding p r (ct POINTS) i = p
holding p r (ct RECORDS) i = r
holding p r (ct SETTINGS) i = 0
holding p r (pt f) i = 0
holding p r (rc f) i = 0

all_points : crowd (holding 1024 0) (holding 1024 0) ≡ false
all_points = refl

one_point_more : crowd (holding 1024 0) (holding 1025 0) ≡ true
one_point_more = refl

all_records : crowd (holding 0 500) (holding 0 12) ≡ false
all_records = refl

one_record_more : crowd (holding 0 500) (holding 0 13) ≡ true
one_record_more = refl

-- ---- which records were stepped: by the words that are asked

-- a record with this first point, flags, mark, present place, origin and reason
abbrev record_with : ℕ → ℕ → ℕ → ℕ → ℕ → ℕ → Store
record_with f g m p c r (rc FIRST) i = f
record_with f g m p c r (rc FLAGS) i = g
record_with f g m p c r (rc MARK) i = m
record_with f g m p c r (rc PRESENT) i = p
record_with f g m p c r (rc CUT) i = c
record_with f g m p c r (rc REASON) i = r
record_with f g m p c r (rc OWNER) i = 0
record_with f g m p c r (rc START) i = 0
record_with f g m p c r (rc TAKER) i = 0
record_with f g m p c r (pt h) i = 0
record_with f g m p c r (ct h) i = 0

closed_at_start : is_stepped (record_with 3 0 0 3 NONE 0) 0 ≡ false
unfolding is_stepped
closed_at_start = refl

validity_behind : is_stepped (record_with 3 0 1 3 NONE 0) 0 ≡ true
unfolding is_stepped
validity_behind = refl

moved_on : is_stepped (record_with 3 0 0 4 NONE 0) 0 ≡ true
unfolding is_stepped
moved_on = refl

an_open_one : is_stepped (record_with 3 1 4 4 NONE 0) 0 ≡ false
unfolding is_stepped
an_open_one = refl

an_offcut : is_stepped (record_with 3 0 0 3 2 0) 0 ≡ true
unfolding is_stepped
an_offcut = refl

no_ring_given : is_stepped (record_with NONE 0 0 0 NONE 1) 0 ≡ false
unfolding is_stepped
no_ring_given = refl

joined_away : is_stepped (record_with NONE 0 4 0 NONE 2) 0 ≡ false
unfolding is_stepped
joined_away = refl

discarded : is_stepped (record_with NONE 0 4 0 NONE 3) 0 ≡ true
unfolding is_stepped
discarded = refl

-- ---- numbers, raised: a first of 10 points and 3 records, a second of 6 points and 2 records whose numbers are all v

abbrev second : ℕ → Store
second v (ct POINTS) i = 6
second v (ct RECORDS) i = 2
second v (ct SETTINGS) i = 0
second v (pt f) i = v
second v (rc f) i = v

-- point 4 of the second is point 14, record 1 is record 4
abbrev point_word : PointCol → ℕ → ℕ
point_word f v = pooled (holding 10 3) (second v) (pt f) 14

abbrev record_word : RecordCol → ℕ → ℕ
record_word f v = pooled (holding 10 3) (second v) (rc f) 4

point_words : (point_word X 1 ∷ point_word Y 1 ∷ point_word Z 1 ∷ point_word NEXT 5 ∷ point_word PREV 5 ∷ point_word REC 1 ∷ []) ≡ 1 ∷ 1 ∷ 1 ∷ 15 ∷ 15 ∷ 4 ∷ []
unfolding followed raise
point_words = refl

record_words : (record_word OWNER 1 ∷ record_word CUT 1 ∷ record_word TAKER 1 ∷ record_word FIRST 5 ∷ record_word PRESENT 5 ∷ record_word START 5 ∷ record_word FLAGS 1 ∷ record_word MARK 1 ∷ record_word REASON 1 ∷ [])
    ≡ 4 ∷ 4 ∷ 4 ∷ 15 ∷ 15 ∷ 15 ∷ 1 ∷ 1 ∷ 1 ∷ []
unfolding followed raise
record_words = refl

-- "none staying none"
none_stays : (record_word OWNER NONE ∷ record_word CUT NONE ∷ record_word FIRST NONE ∷ record_word PRESENT NONE ∷ record_word START NONE ∷ []) ≡ NONE ∷ NONE ∷ NONE ∷ NONE ∷ NONE ∷ []
unfolding followed raise
none_stays = refl

-- the first's words, and the counts
firsts_stay : pooled (holding 10 3) (second 1) (pt NEXT) 9 ≡ 0
unfolding followed raise
firsts_stay = refl

counts_added : (pooled (holding 10 3) (second 1) (ct POINTS) 0 ∷ pooled (holding 10 3) (second 1) (ct RECORDS) 0 ∷ []) ≡ 16 ∷ 5 ∷ []
counts_added = refl
