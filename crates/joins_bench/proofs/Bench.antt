-- Joins by evaluation, as rows of one table: document 01's bench examples with joins, knots, and the rings and owners that joins leave. The answers are the real Rust's, by `oracle opened`.
use Prim.Native.Nat.{ℕ, zero, suc, ◌+◌}
use mathlib.Core.Path.{◌≡◌, refl}
use mathlib.Core.Bool.{cond}
use mathlib.Core.List.{List, [], ◌∷◌, ◌++◌}
use mathlib.Core.Option.{Option, none, some}
use lib.Dec.{eqb}
use lib.ListN.{replicate}
use Rattle.std.proofs.Common.{Ok, Err}
use Rattle.store.specs.Field.{pt, rc, ct, NEXT, PREV, REC, OWNER, FIRST, POINTS, RECORDS, BLOCK, NONE}
use Rattle.store.specs.Words.{cell, put, Write, write, on_words, view}
use Rattle.store.specs.Named.{owner_of, records_of, kept_of, taker_of}
use Rattle.store.specs.Reason.{JOINED}
use Rattle.store.specs.Sound.{ring_at}
use Rattle.rings.specs.Walk.{run}
use Rattle.job.specs.Refusal.{number_of}
use Rattle.joins.specs.Resolve.{find_in}
use Rattle.joins.specs.Error.{row_of}
use Rattle.joins.specs.Join.{JoinEnd, end, relink_of, new_out_rec, name_all, fix_outrec_pts, move_first, split_ring, split_of, merge_of, by_records, join_of, joins_from, process_horz_joins}
use Rattle.joins.specs.AsRings.{goes, stays, seen_from, first_left, spliced}

-- from point c of record r's ring on by l, and back to f
abbrev pub linked : ℕ → ℕ → ℕ → List ℕ → List Write
linked r f c [] = write (pt NEXT) c f ∷ write (pt PREV) f c ∷ write (pt REC) c r ∷ []
linked r f c (x ∷ l) = write (pt NEXT) c x ∷ write (pt PREV) x c ∷ write (pt REC) c r ∷ linked r f x l

-- each list is a ring, the first that of record r
abbrev pub rings : ℕ → List (List ℕ) → List Write
rings r [] = write (ct RECORDS) 0 r ∷ []
rings r ([] ∷ ls) = write (rc FIRST) r NONE ∷ write (rc OWNER) r NONE ∷ rings (r + 1) ls
rings r ((a ∷ l) ∷ ls) = write (rc FIRST) r a ∷ write (rc OWNER) r NONE ∷ linked r a a l ++ rings (r + 1) ls

-- a record: its owner, its ring from the first point in walk order, and the record that took it in a join, if one did
pub record Left : Type 0 where
  pub owner : ℕ
  pub ring : List ℕ
  pub taker : Option ℕ

abbrev pub left : ℕ → List ℕ → Left
left o c = record { owner = o; ring = c; taker = none }

-- emptied by record i
abbrev pub taken_by : ℕ → Left
taken_by i = record { owner = i; ring = []; taker = some i }

-- the record that took record i, if that is the reason kept
abbrev pub taker : List ℕ → ℕ → Option ℕ
taker w i = cond (eqb (kept_of w i) JOINED) (some (taker_of w i)) none

-- a refusal's number; or the records
pub data Answer : Type 0 where
  refused : ℕ → Answer
  joined : List Left → Answer

-- records i to i + n - 1
abbrev pub left_from : List ℕ → ℕ → ℕ → List Left
left_from w i zero = []
left_from w i (suc n) = record { owner = owner_of w i; ring = ring_at (view w) i; taker = taker w i } ∷ left_from w (i + 1) n

abbrev pub answer_of : JoinEnd → Answer
answer_of (end (Ok tt) w) = joined (left_from w 0 (records_of w))
answer_of (end (Err e) w) = refused (number_of (row_of e))

-- a job of rings with `points` points, its joins two by two, and the answer
pub record Example : Type 0 where
  pub points : ℕ
  pub job : List (List ℕ)
  pub joins : List ℕ
  pub many : ℕ
  pub answer : Answer

unfoldable pub answered : Example → Answer
answered e = answer_of (process_horz_joins e.many e.joins (on_words (replicate BLOCK 0) (write (ct POINTS) 0 e.points ∷ rings 0 e.job)))

abbrev pub RowsHold : List Example → Type 0
RowsHold [] = Unit {0}
RowsHold (e ∷ l) = (answered e ≡ e.answer) × RowsHold l

abbrev pub triangle : List ℕ
triangle = 0 ∷ 1 ∷ 2 ∷ []

abbrev pub other : List ℕ
other = 3 ∷ 4 ∷ 5 ∷ []

abbrev pub hexagon : List ℕ
hexagon = 0 ∷ 1 ∷ 2 ∷ 3 ∷ 4 ∷ 5 ∷ []

abbrev pub square : ℕ → List ℕ
square k = k ∷ (k + 1) ∷ (k + 2) ∷ (k + 3) ∷ []

unfoldable pub examples : List Example
examples =
    -- "join of a point with its next: 9"
    record { points = 3; job = triangle ∷ []; joins = 0 ∷ 1 ∷ []; many = 1; answer = refused 9 }
    -- "with itself, on three points: accepted"
    ∷ record { points = 3; job = triangle ∷ []; joins = 0 ∷ 0 ∷ []; many = 1; answer = joined (left NONE (0 ∷ []) ∷ left 0 (1 ∷ 2 ∷ []) ∷ []) }
    -- a one-point ring joined with itself
    ∷ record { points = 1; job = (0 ∷ []) ∷ []; joins = 0 ∷ 0 ∷ []; many = 1; answer = refused 9 }
    -- a two-point ring joined with itself
    ∷ record { points = 2; job = (0 ∷ 1 ∷ []) ∷ []; joins = 0 ∷ 0 ∷ []; many = 1; answer = joined (left NONE (0 ∷ []) ∷ left 0 (1 ∷ []) ∷ []) }
    -- two points of one ring, whose first point stays
    ∷ record { points = 6; job = hexagon ∷ []; joins = 1 ∷ 4 ∷ []; many = 1; answer = joined (left NONE (0 ∷ 1 ∷ 4 ∷ 5 ∷ []) ∷ left 0 (2 ∷ 3 ∷ []) ∷ []) }
    -- whose first point goes, so that op1 is the first
    ∷ record { points = 6; job = hexagon ∷ []; joins = 4 ∷ 2 ∷ []; many = 1; answer = joined (left NONE (4 ∷ 2 ∷ 3 ∷ []) ∷ left 0 (5 ∷ 0 ∷ 1 ∷ []) ∷ []) }
    -- two rings
    ∷ record { points = 6; job = triangle ∷ other ∷ []; joins = 0 ∷ 4 ∷ []; many = 1; answer = joined (left NONE (0 ∷ 4 ∷ 5 ∷ 3 ∷ 1 ∷ 2 ∷ []) ∷ taken_by 0 ∷ []) }
    -- two rings, then the one that they have become
    ∷ record { points = 6; job = triangle ∷ other ∷ []; joins = 0 ∷ 4 ∷ 5 ∷ 2 ∷ []; many = 2; answer = joined (left NONE (0 ∷ 4 ∷ 5 ∷ 2 ∷ []) ∷ taken_by 0 ∷ left 0 (3 ∷ 1 ∷ []) ∷ []) }
    -- three rings: the third goes to the second, which goes to the first; or the second goes first, and the third to the first
    ∷ record { points = 12; job = square 0 ∷ square 4 ∷ square 8 ∷ []; joins = 5 ∷ 8 ∷ 1 ∷ 4 ∷ []; many = 2; answer = joined (left NONE (0 ∷ 1 ∷ 4 ∷ 5 ∷ 8 ∷ 9 ∷ 10 ∷ 11 ∷ 6 ∷ 7 ∷ 2 ∷ 3 ∷ []) ∷ taken_by 0 ∷ taken_by 1 ∷ []) }
    ∷ record { points = 12; job = square 0 ∷ square 4 ∷ square 8 ∷ []; joins = 1 ∷ 4 ∷ 5 ∷ 8 ∷ []; many = 2; answer = joined (left NONE (0 ∷ 1 ∷ 4 ∷ 5 ∷ 8 ∷ 9 ∷ 10 ∷ 11 ∷ 6 ∷ 7 ∷ 2 ∷ 3 ∷ []) ∷ taken_by 0 ∷ taken_by 0 ∷ []) }
    -- the same join twice
    ∷ record { points = 6; job = triangle ∷ other ∷ []; joins = 0 ∷ 4 ∷ 0 ∷ 4 ∷ []; many = 2; answer = refused 9 }
    ∷ []

pub bench : RowsHold examples
unfolding examples answered joins_from join_of by_records split_of split_ring move_first fix_outrec_pts name_all new_out_rec relink_of merge_of find_in run cell put
bench = (refl, (refl, (refl, (refl, (refl, (refl, (refl, (refl, (refl, (refl, (refl, tt)))))))))))

-- ---- the same by lists alone: what goes, what stays, what is spliced

pub listed : (goes 1 4 hexagon ≡ 2 ∷ 3 ∷ []) × (seen_from 0 (stays 1 4 hexagon) ≡ 0 ∷ 1 ∷ 4 ∷ 5 ∷ []) × (goes 4 2 hexagon ≡ 5 ∷ 0 ∷ 1 ∷ []) × (seen_from 4 (stays 4 2 hexagon) ≡ 4 ∷ 2 ∷ 3 ∷ []) × (first_left 4 (goes 4 2 hexagon) 0 ≡ 4) × (spliced 0 4 triangle other ≡ 0 ∷ 4 ∷ 5 ∷ 3 ∷ 1 ∷ 2 ∷ [])
listed = (refl, refl, refl, refl, refl, refl)
