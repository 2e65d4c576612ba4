-- Document 01's section "The job": what stands at the front of a part of the job, a field or the refusal that it earns.
use Rattle.std.specs.Prelude.{ℕ, ◌+◌, Bool, false, cond, not, ◌&&◌, ◌||◌, List, leb, ltb, eqb, length, get_or, drop, Result, Ok, Err}
use Rattle.numbers.specs.Bytes.{le}
use Rattle.job.specs.declared.Job.{Job}
use Rattle.job.specs.declared.refusal.Refusal.TheVariants.{Torn, Strange, Crowded}
use Rattle.job.specs.declared.field.Kind.{Kind}
use Rattle.job.specs.declared.field.Kind.TheVariants as kind
use Rattle.job.specs.declared.field.Field.{Field}
use Rattle.job.specs.declared.field.Field.TheVariants.{Settings, Point, Record, Segment, Join}
use Rattle.job.specs.declared.refusal.Refusal.{Refusal}
use Rattle.job.specs.Limits.{POINTS, RECORDS, SEGMENTS, JOINS}
use Rattle.job.specs.Coordinate.{word_at, depth_at}

-- "tag one byte, length two bytes, value"
abbrev pub HEADER : ℕ
HEADER = 3

abbrev pub tag_of : List ℕ → ℕ
tag_of s = get_or s 0 0

abbrev pub length_of : List ℕ → ℕ
length_of s = le 2 1 s

abbrev pub value_of : List ℕ → List ℕ
value_of s = drop HEADER s

-- the kinds of field by their tags, 1 to 5 (asked of no other tag)
abbrev pub kind_of : ℕ → Kind
kind_of tag =
    cond (eqb tag 1) kind.Settings
    (cond (eqb tag 2) kind.Point
    (cond (eqb tag 3) kind.Record
    (cond (eqb tag 4) kind.Segment
    kind.Join)))

-- the bytes of each kind's value
abbrev pub size_of : Kind → ℕ
size_of kind.Settings = 1
size_of kind.Point = 18
size_of kind.Record = 5
size_of kind.Segment = 2
size_of kind.Join = 4

-- where in a value its numbers stand: a point's, a record's, a join's. Each kind's first number stands at 0
abbrev pub Y_AT : ℕ
Y_AT = 4

abbrev pub NEXT_AT : ℕ
NEXT_AT = 8

abbrev pub PREV_AT : ℕ
PREV_AT = 10

abbrev pub RECORD_AT : ℕ
RECORD_AT = 12

abbrev pub Z_AT : ℕ
Z_AT = 14

abbrev pub OWNER_AT : ℕ
OWNER_AT = 1

abbrev pub FIRST_AT : ℕ
FIRST_AT = 3

abbrev pub SECOND_AT : ℕ
SECOND_AT = 2

-- the numbers of each kind's value; x, y and z as their words
abbrev pub field_in : Kind → List ℕ → Field
field_in kind.Settings v = Settings (le 1 0 v)
field_in kind.Point v = Point (word_at 0 v) (word_at Y_AT v) (le 2 NEXT_AT v) (le 2 PREV_AT v) (le 2 RECORD_AT v) (depth_at Z_AT v)
field_in kind.Record v = Record (le 1 0 v) (le 2 OWNER_AT v) (le 2 FIRST_AT v)
field_in kind.Segment v = Segment (le 2 0 v)
field_in kind.Join v = Join (le 2 0 v) (le 2 SECOND_AT v)

-- row 1: "under 3 bytes remain for a field"
abbrev pub torn_header : List ℕ → Bool
torn_header s = ltb (length s) HEADER

-- row 2: "unknown, falling or misplaced tag", settings being "first, once"; the last tag is 0 before the first field
abbrev pub strange_tag : ℕ → ℕ → Bool
strange_tag last tag =
    (eqb tag 0 || ltb 5 tag) || ltb tag last || (eqb last 0 && not (eqb tag 1)) || (ltb 0 last && eqb tag 1)

-- row 1: "the length isn't the tag's, or the value runs past the end"
abbrev pub torn_value : Kind → List ℕ → Bool
torn_value k s = not (eqb (length_of s) (size_of k)) || ltb (length s) (HEADER + size_of k)

-- row 2: "an unused bit set": the settings and a record's flags use bits 0 and 1
abbrev pub strange_bits : Field → Bool
strange_bits (Settings bits) = ltb 3 bits
strange_bits (Point x y next prev rec z) = false
strange_bits (Record flags owner first) = ltb 3 flags
strange_bits (Segment p) = false
strange_bits (Join a b) = false

-- row 3: "a count above its limit", with this field
abbrev pub crowded : Kind → Job → Bool
crowded kind.Settings j = false
crowded kind.Point j = leb POINTS j.points
crowded kind.Record j = leb RECORDS j.records
crowded kind.Segment j = leb SEGMENTS j.segments
crowded kind.Join j = leb JOINS j.joins

-- after the tag: "1 for length and value, 2 for bits, 3"; else the field and its whole length
unfoldable pub body_of : Kind → Job → List ℕ → Result (Field × ℕ) Refusal
body_of k j s =
    cond (torn_value k s) (Err Torn)
    (cond (strange_bits (field_in k (value_of s))) (Err Strange)
    (cond (crowded k j) (Err Crowded)
    (Ok (field_in k (value_of s), HEADER + size_of k))))

-- "per field: 1 for the header, 2 for the tag", then the rest
unfoldable pub field_of : Job → List ℕ → Result (Field × ℕ) Refusal
field_of j s =
    cond (torn_header s) (Err Torn)
    (cond (strange_tag j.last (tag_of s)) (Err Strange)
    (body_of (kind_of (tag_of s)) j s))
