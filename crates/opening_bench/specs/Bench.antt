-- Jobs with joins and level segments as rows of one table: a job, and what opening answers. The answers are the real Rust's, by the oracle;
-- program `opened_cases` runs the same jobs.
use Rattle.std.specs.Prelude.{ℕ, suc, ◌+◌, ◌-◌, ◌%◌, ◌/◌, ◌≡◌, List, [], ◌∷◌, ◌++◌, map, pos, length, replicate, take, drop, Ok, Err}
use Rattle.rings.specs.Count.{table}
use Rattle.job.specs.Refusal.{number_of}
use Rattle.geometry.specs.declared.Point.{Point}
use Rattle.store.specs.Field.{rc, FLAGS, OWNER, NONE, LENGTH}
use Rattle.store.specs.Words.{Store, view}
use Rattle.store.specs.Named.{points_of, records_of}
use Rattle.store.specs.Sound.{ring_at}
use Rattle.store.specs.Value.{point_at}
use Rattle.opening.specs.Open.{End, end, open_of}

-- ---- a job's bytes

-- a ring: its record's flags and owner, and its points in order; the first is the record's first
pub record Loop : Type 0 where
  pub flags : ℕ
  pub owner : ℕ
  pub points : List (List ℕ)

pub record JoinOf : Type 0 where
  pub one : ℕ
  pub two : ℕ

abbrev pub loop : ℕ → ℕ → List (List ℕ) → Loop
loop f o ps = record { flags = f; owner = o; points = ps }

abbrev pub pair : ℕ → ℕ → JoinOf
pair a b = record { one = a; two = b }

-- numbers of two bytes, low byte first; x, y and z below 256 have three zeros after them
abbrev pub two : ℕ → List ℕ
two n = n % 256 ∷ n / 256 ∷ []

abbrev pub deep_at : ℕ → ℕ → ℕ → List ℕ
deep_at x y z = x ∷ 0 ∷ 0 ∷ 0 ∷ y ∷ 0 ∷ 0 ∷ 0 ∷ z ∷ 0 ∷ 0 ∷ 0 ∷ []

abbrev pub at : ℕ → ℕ → List ℕ
at x y = deep_at x y 0

-- the points of a ring of n from number k on, of record r, from its point i on
abbrev pub point_fields : ℕ → ℕ → ℕ → ℕ → List (List ℕ) → List ℕ
point_fields k n r i [] = []
point_fields k n r i (p ∷ ps) =
    2 ∷ 18 ∷ 0 ∷ take 8 p ++ two (k + (i + 1) % n) ++ two (k + (i + (n - 1)) % n) ++ two r ++ drop 8 p ++ point_fields k n r (suc i) ps

abbrev pub ring_fields : ℕ → ℕ → List Loop → List ℕ
ring_fields k r [] = []
ring_fields k r (l ∷ ls) = point_fields k (length l.points) r 0 l.points ++ ring_fields (k + length l.points) (suc r) ls

abbrev pub record_fields : ℕ → List Loop → List ℕ
record_fields k [] = []
record_fields k (l ∷ ls) = 3 ∷ 5 ∷ 0 ∷ l.flags ∷ two l.owner ++ two k ++ record_fields (k + length l.points) ls

abbrev pub segment_fields : List ℕ → List ℕ
segment_fields [] = []
segment_fields (p ∷ ps) = 4 ∷ 2 ∷ 0 ∷ two p ++ segment_fields ps

abbrev pub join_fields : List JoinOf → List ℕ
join_fields [] = []
join_fields (j ∷ js) = 5 ∷ 4 ∷ 0 ∷ two j.one ++ two j.two ++ join_fields js

-- settings 0
abbrev pub job_of : List Loop → List ℕ → List JoinOf → List ℕ
job_of ls ss js = 1 ∷ 1 ∷ 0 ∷ 0 ∷ ring_fields 0 0 ls ++ record_fields 0 ls ++ segment_fields ss ++ join_fields js

-- ---- an answer

-- a point of a ring, by its number and by value
pub record Member : Type 0 where
  pub number : ℕ
  pub value : Point

-- a record: flags, owner, and its ring from the first point in walk order
pub record Left : Type 0 where
  pub flags : ℕ
  pub owner : ℕ
  pub ring : List Member

abbrev pub deep_on : ℕ → ℕ → ℕ → ℕ → Member
deep_on k a b c = record { number = k; value = record { x = pos a; y = pos b; z = c } }

abbrev pub on : ℕ → ℕ → ℕ → Member
on k a b = deep_on k a b 0

abbrev pub left : ℕ → ℕ → List Member → Left
left f o c = record { flags = f; owner = o; ring = c }

-- a refusal's number; or how many points there are, and the records
pub data Answer : Type 0 where
  refused : ℕ → Answer
  opened : ℕ → List Left → Answer

abbrev pub left_at : Store → ℕ → Left
left_at s i = left (s (rc FLAGS) i) (s (rc OWNER) i) (map (λ (k : ℕ). record { number = k; value = point_at s k }) (ring_at s i))

abbrev pub answer_of : End → Answer
answer_of (end (Ok tt) w) = opened (points_of w) (table (left_at (view w)) 0 (records_of w))
answer_of (end (Err r) w) = refused (number_of r)

-- ---- the table

pub record Row : Type 0 where
  pub job : List ℕ
  pub answer : Answer

abbrev pub row : List Loop → List ℕ → List JoinOf → Answer → Row
row ls ss js a = record { job = job_of ls ss js; answer = a }

-- a work space of the fixed length
unfoldable pub result : Row → Answer
result r = answer_of (open_of r.job (replicate LENGTH 0))

-- a join of a point with its next
unfoldable pub knotted : Row
knotted =
    row (loop 0 NONE (at 0 0 ∷ at 10 0 ∷ at 5 10 ∷ []) ∷ []) [] (pair 0 1 ∷ [])
    (refused 9)

-- with itself, on three points
unfoldable pub itself : Row
itself =
    row (loop 0 NONE (at 0 0 ∷ at 10 0 ∷ at 5 10 ∷ []) ∷ []) [] (pair 0 0 ∷ [])
    (opened 3 (left 0 NONE (on 0 0 0 ∷ []) ∷ left 0 0 (on 1 10 0 ∷ on 2 5 10 ∷ []) ∷ []))

-- segments that overlap
unfoldable pub overlapping : Row
overlapping =
    row (loop 0 NONE (at 0 10 ∷ at 10 10 ∷ at 10 20 ∷ at 0 20 ∷ []) ∷ loop 0 NONE (at 15 10 ∷ at 5 10 ∷ at 5 0 ∷ at 15 0 ∷ []) ∷ []) (0 ∷ 4 ∷ []) []
    (opened 10 (left 0 NONE (on 0 0 10 ∷ on 8 0 10 ∷ on 9 5 10 ∷ on 5 5 10 ∷ on 6 5 0 ∷ on 7 15 0 ∷ on 4 15 10 ∷ on 1 10 10 ∷ on 2 10 20 ∷ on 3 0 20 ∷ []) ∷ left 0 0 [] ∷ []))

-- the same with depths: the two points that are made, 8 and 9, are copies of 0 and 5 and have their z
unfoldable pub deep_copies : Row
deep_copies =
    row (loop 0 NONE (deep_at 0 10 1 ∷ deep_at 10 10 2 ∷ deep_at 10 20 3 ∷ deep_at 0 20 4 ∷ []) ∷ loop 0 NONE (deep_at 15 10 5 ∷ deep_at 5 10 6 ∷ deep_at 5 0 7 ∷ deep_at 15 0 8 ∷ []) ∷ []) (0 ∷ 4 ∷ []) []
    (opened 10 (left 0 NONE (deep_on 0 0 10 1 ∷ deep_on 8 0 10 1 ∷ deep_on 9 5 10 6 ∷ deep_on 5 5 10 6 ∷ deep_on 6 5 0 7 ∷ deep_on 7 15 0 8 ∷ deep_on 4 15 10 5 ∷ deep_on 1 10 10 2 ∷ deep_on 2 10 20 3 ∷ deep_on 3 0 20 4 ∷ []) ∷ left 0 0 [] ∷ []))

-- two that run the same way
unfoldable pub same_way : Row
same_way =
    row (loop 0 NONE (at 0 0 ∷ at 10 0 ∷ at 10 10 ∷ at 0 10 ∷ []) ∷ loop 0 NONE (at 5 0 ∷ at 15 0 ∷ at 15 10 ∷ at 5 10 ∷ []) ∷ []) (0 ∷ 4 ∷ []) []
    (opened 8 (left 0 NONE (on 0 0 0 ∷ on 1 10 0 ∷ on 2 10 10 ∷ on 3 0 10 ∷ []) ∷ left 0 NONE (on 4 5 0 ∷ on 5 15 0 ∷ on 6 15 10 ∷ on 7 5 10 ∷ []) ∷ []))

-- a level ring without a front edge
unfoldable pub level_free : Row
level_free =
    row (loop 0 NONE (at 0 0 ∷ at 10 0 ∷ at 8 0 ∷ at 20 0 ∷ []) ∷ loop 0 NONE (at 5 0 ∷ at 15 0 ∷ at 15 10 ∷ at 5 10 ∷ []) ∷ []) (2 ∷ 4 ∷ []) []
    (opened 10 (left 0 1 [] ∷ left 0 NONE (on 4 5 0 ∷ on 8 5 0 ∷ on 9 8 0 ∷ on 2 8 0 ∷ on 3 20 0 ∷ on 0 0 0 ∷ on 1 10 0 ∷ on 5 15 0 ∷ on 6 15 10 ∷ on 7 5 10 ∷ []) ∷ []))

-- the same with a front edge
unfoldable pub level_walled : Row
level_walled =
    row (loop 2 NONE (at 0 0 ∷ at 10 0 ∷ at 8 0 ∷ at 20 0 ∷ []) ∷ loop 0 NONE (at 5 0 ∷ at 15 0 ∷ at 15 10 ∷ at 5 10 ∷ []) ∷ []) (2 ∷ 4 ∷ []) []
    (opened 10 (left 2 1 [] ∷ left 0 NONE (on 4 5 0 ∷ on 8 5 0 ∷ on 9 0 0 ∷ on 0 0 0 ∷ on 1 10 0 ∷ on 2 8 0 ∷ on 3 20 0 ∷ on 5 15 0 ∷ on 6 15 10 ∷ on 7 5 10 ∷ []) ∷ []))

-- equal left x, where the order of the job decides
unfoldable pub equal_left : Row
equal_left =
    row (loop 0 NONE (at 0 10 ∷ at 20 10 ∷ at 20 20 ∷ at 0 20 ∷ []) ∷ loop 0 NONE (at 12 10 ∷ at 0 10 ∷ at 0 0 ∷ at 12 0 ∷ []) ∷ loop 0 NONE (at 14 10 ∷ at 0 10 ∷ at 0 1 ∷ at 14 1 ∷ []) ∷ []) (8 ∷ 4 ∷ 0 ∷ []) []
    (opened 16 (left 0 NONE (on 0 0 10 ∷ on 12 0 10 ∷ on 13 0 10 ∷ on 9 0 10 ∷ on 10 0 1 ∷ on 11 14 1 ∷ on 8 14 10 ∷ on 14 0 10 ∷ on 15 0 10 ∷ on 5 0 10 ∷ on 6 0 0 ∷ on 7 12 0 ∷ on 4 12 10 ∷ on 1 20 10 ∷ on 2 20 20 ∷ on 3 0 20 ∷ []) ∷ left 0 0 [] ∷ left 0 0 [] ∷ []))

-- two of one ring, which becomes two
unfoldable pub one_ring : Row
one_ring =
    row (loop 0 NONE (at 0 5 ∷ at 10 5 ∷ at 10 15 ∷ at 12 15 ∷ at 12 5 ∷ at 2 5 ∷ at 2 0 ∷ at 0 0 ∷ []) ∷ []) (0 ∷ 4 ∷ []) []
    (opened 10 (left 0 NONE (on 0 0 5 ∷ on 8 0 5 ∷ on 9 2 5 ∷ on 5 2 5 ∷ on 6 2 0 ∷ on 7 0 0 ∷ []) ∷ left 0 0 (on 1 10 5 ∷ on 2 10 15 ∷ on 3 12 15 ∷ on 4 12 5 ∷ []) ∷ []))

-- one within the other, given first
unfoldable pub nested : Row
nested =
    row (loop 0 NONE (at 0 10 ∷ at 20 10 ∷ at 20 20 ∷ at 0 20 ∷ []) ∷ loop 0 NONE (at 12 10 ∷ at 5 10 ∷ at 5 0 ∷ at 12 0 ∷ []) ∷ []) (4 ∷ 0 ∷ []) []
    (opened 10 (left 0 NONE (on 0 0 10 ∷ on 8 0 10 ∷ on 9 5 10 ∷ on 5 5 10 ∷ on 6 5 0 ∷ on 7 12 0 ∷ on 4 12 10 ∷ on 1 20 10 ∷ on 2 20 20 ∷ on 3 0 20 ∷ []) ∷ left 0 0 [] ∷ []))

-- the same at two heights, which are not compared
unfoldable pub other_heights : Row
other_heights =
    row (loop 0 NONE (at 0 10 ∷ at 20 10 ∷ at 20 20 ∷ at 0 20 ∷ []) ∷ loop 0 NONE (at 12 7 ∷ at 5 7 ∷ at 5 0 ∷ at 12 0 ∷ []) ∷ []) (4 ∷ 0 ∷ []) []
    (opened 10 (left 0 NONE (on 0 0 10 ∷ on 8 0 10 ∷ on 9 5 7 ∷ on 5 5 7 ∷ on 6 5 0 ∷ on 7 12 0 ∷ on 4 12 7 ∷ on 1 20 10 ∷ on 2 20 20 ∷ on 3 0 20 ∷ []) ∷ left 0 0 [] ∷ []))

-- three on one line
unfoldable pub three_in_line : Row
three_in_line =
    row (loop 0 NONE (at 0 10 ∷ at 30 10 ∷ at 30 20 ∷ at 0 20 ∷ []) ∷ loop 0 NONE (at 12 10 ∷ at 5 10 ∷ at 5 0 ∷ at 12 0 ∷ []) ∷ loop 0 NONE (at 25 10 ∷ at 10 10 ∷ at 10 1 ∷ at 25 1 ∷ []) ∷ []) (0 ∷ 4 ∷ 8 ∷ []) []
    (opened 16 (left 0 NONE (on 0 0 10 ∷ on 12 0 10 ∷ on 13 5 10 ∷ on 5 5 10 ∷ on 6 5 0 ∷ on 7 12 0 ∷ on 4 12 10 ∷ on 14 0 10 ∷ on 15 10 10 ∷ on 9 10 10 ∷ on 10 10 1 ∷ on 11 25 1 ∷ on 8 25 10 ∷ on 1 30 10 ∷ on 2 30 20 ∷ on 3 0 20 ∷ []) ∷ left 0 0 [] ∷ left 0 0 [] ∷ []))

-- one given by both its ends, whose left point is taken once
unfoldable pub both_ends : Row
both_ends =
    row (loop 0 NONE (at 0 10 ∷ at 10 10 ∷ at 10 20 ∷ at 0 20 ∷ []) ∷ loop 0 NONE (at 15 10 ∷ at 5 10 ∷ at 5 0 ∷ at 15 0 ∷ []) ∷ []) (0 ∷ 1 ∷ 4 ∷ []) []
    (opened 10 (left 0 NONE (on 0 0 10 ∷ on 8 0 10 ∷ on 9 5 10 ∷ on 5 5 10 ∷ on 6 5 0 ∷ on 7 15 0 ∷ on 4 15 10 ∷ on 1 10 10 ∷ on 2 10 20 ∷ on 3 0 20 ∷ []) ∷ left 0 0 [] ∷ []))

-- an upright spike has no level run: one valid segment is left, and no join is made
unfoldable pub upright_spike : Row
upright_spike =
    row (loop 0 NONE (at 0 0 ∷ at 0 10 ∷ at 0 5 ∷ []) ∷ loop 0 NONE (at 15 10 ∷ at 5 10 ∷ at 5 0 ∷ at 15 0 ∷ []) ∷ []) (0 ∷ 3 ∷ []) []
    (opened 7 (left 0 NONE (on 0 0 0 ∷ on 1 0 10 ∷ on 2 0 5 ∷ []) ∷ left 0 NONE (on 3 15 10 ∷ on 4 5 10 ∷ on 5 5 0 ∷ on 6 15 0 ∷ []) ∷ []))

-- one on an open ring
unfoldable pub open_ring : Row
open_ring =
    row (loop 1 NONE (at 0 0 ∷ at 10 0 ∷ at 10 10 ∷ []) ∷ []) (0 ∷ []) []
    (refused 8)

-- the job's own join is made before that of its segments
unfoldable pub own_join_first : Row
own_join_first =
    row (loop 0 NONE (at 0 10 ∷ at 10 10 ∷ at 10 20 ∷ at 0 20 ∷ []) ∷ loop 0 NONE (at 15 10 ∷ at 5 10 ∷ at 5 0 ∷ at 15 0 ∷ []) ∷ []) (0 ∷ 4 ∷ []) (pair 2 6 ∷ [])
    (opened 10 (left 0 NONE (on 0 0 10 ∷ on 8 0 10 ∷ on 9 5 10 ∷ on 5 5 10 ∷ on 3 0 20 ∷ []) ∷ left 0 0 [] ∷ left 0 0 (on 1 10 10 ∷ on 2 10 20 ∷ on 6 5 0 ∷ on 7 15 0 ∷ on 4 15 10 ∷ []) ∷ []))

-- a row holds
abbrev pub RowsHold : List Row → Type 0
RowsHold [] = Unit {0}
RowsHold (r ∷ rs) = (result r ≡ r.answer) × RowsHold rs

abbrev pub bench : List Row
bench = knotted ∷ itself ∷ overlapping ∷ deep_copies ∷ same_way ∷ level_free ∷ level_walled ∷ equal_left ∷ one_ring ∷ nested ∷ other_heights ∷ three_in_line ∷ both_ends ∷ upright_spike ∷ open_ring ∷ own_join_first ∷ []
