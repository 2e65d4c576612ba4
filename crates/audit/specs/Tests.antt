-- The tests of a handed work space: document 01, "A step, or writing out after steps, first tests the work space it is handed".
use Rattle.std.specs.Prelude.{ℕ, zero, suc, Bool, false, cond, not, ◌&&◌, ◌||◌, List, [], ◌∷◌, eqb, ltb, Result, Ok, Err}
use Rattle.rings.specs.Count.{occ}
use Rattle.job.specs.Limits as limit
use Rattle.job.specs.Coordinate.{off_the_table}
use Rattle.job.specs.declared.refusal.Refusal.{Refusal}
use Rattle.job.specs.declared.refusal.Refusal.TheVariants.{Crowded, OffTheTable, NoSuch, Loose, Muddled}
use Rattle.store.specs.Field.{pt, X, Y, NEXT, NONE}
use Rattle.store.specs.Words.{view}
use Rattle.store.specs.Named.{points_of, records_of, next_of, prev_of, rec_of, owner_of, first_of, progress_of, present_of, kept_of, taker_of}
use Rattle.store.specs.Reason.{JOINED, is_kept}
use Rattle.store.specs.Sound.{ringless, ring_at, is_open}

-- the number stands in the list
abbrev pub is_in : ℕ → List ℕ → Bool
is_in k l = ltb 0 (occ k l)

-- the test holds of a number below n
unfoldable pub any_below : ℕ → (ℕ → Bool) → Bool
any_below zero q = false
any_below (suc n) q = any_below n q || q n

-- ---- "all points reached along next from the first points, as far as a number names a point"

-- the points reached from a, of m points, beside those seen before; a walk ends at a number that names no point, or at a point seen
unfoldable pub reach : ℕ → (ℕ → ℕ) → ℕ → List ℕ → ℕ → List ℕ
reach zero next m seen a = seen
reach (suc f) next m seen a =
    let on : List ℕ = reach f next m (a ∷ seen) (next a) in
    cond (ltb a m && not (is_in a seen)) on seen

-- from the first points of the records below i
unfoldable pub reached_by : List ℕ → ℕ → List ℕ
reached_by w zero = []
reached_by w (suc i) = reach limit.POINTS (view w (pt NEXT)) (points_of w) (reached_by w i) (first_of w i)

-- a reached point fails the test
abbrev pub any_reached : List ℕ → (ℕ → Bool) → Bool
any_reached w q = any_below (points_of w) (λ k. is_in k (reached_by w (records_of w)) && q k)

-- a record fails the test
abbrev pub any_record : List ℕ → (ℕ → Bool) → Bool
any_record w q = any_below (records_of w) q

-- ---- the tests, in the paper's order

-- "counts (3)"
abbrev pub crowded : List ℕ → Bool
crowded w = ltb limit.POINTS (points_of w) || ltb limit.RECORDS (records_of w)

-- "coordinates (4)"
abbrev pub off_table : List ℕ → ℕ → Bool
off_table w k = off_the_table (view w (pt X) k) || off_the_table (view w (pt Y) k)

-- "numbers (5: next, prev and record"
abbrev pub no_such : List ℕ → ℕ → Bool
no_such w k = not (ltb (next_of w k) (points_of w)) || (not (ltb (prev_of w k) (points_of w)) || not (ltb (rec_of w k) (records_of w)))

-- "and every record's owner and first point)": a number that names nothing, none aside
abbrev pub names_nothing : ℕ → ℕ → Bool
names_nothing n v = not (eqb v NONE) && not (ltb v n)

abbrev pub no_such_of : List ℕ → ℕ → Bool
no_such_of w i = names_nothing (records_of w) (owner_of w i) || names_nothing (points_of w) (first_of w i)

-- document 02: "a taker's number naming nothing meets 5", of a record without a ring that keeps that it was joined into another
abbrev pub lost_taker : List ℕ → ℕ → Bool
lost_taker w i = ringless (view w) i && (eqb (kept_of w i) JOINED && not (ltb (taker_of w i) (records_of w)))

-- "links (6)": "next of prev, or prev of next, isn't the point"
abbrev pub loose : List ℕ → ℕ → Bool
loose w k = not (eqb (next_of w (prev_of w k)) k) || not (eqb (prev_of w (next_of w k)) k)

-- "that no two records share a ring": links hold by now, so it is one ring if its first point was reached from an earlier record's
abbrev pub shared : List ℕ → ℕ → Bool
shared w i = is_in (first_of w i) (reached_by w i)

-- "that each unfinished closed ring's present place is on it and its progress mark has a meaning (7)": four kinds of step, 0 to 3, and done, 4
abbrev pub misplaced : List ℕ → ℕ → Bool
misplaced w i =
    not (ringless (view w) i) && not (is_open (view w) i)
    && (ltb 4 (progress_of w i) || (ltb (progress_of w i) 4 && not (is_in (present_of w i) (ring_at (view w) i))))

-- document 02: "A ringless record without one of the first five reasons kept meets 7"
abbrev pub untold : List ℕ → ℕ → Bool
untold w i = ringless (view w) i && not (is_kept (kept_of w i))

-- ---- the tests together, in the paper's order

-- the first that fails
unfoldable pub tests_of : List ℕ → Result (Unit {0}) Refusal
tests_of w =
    cond (crowded w) (Err Crowded)
    (cond (any_reached w (λ k. off_table w k)) (Err OffTheTable)
    (cond (any_reached w (λ k. no_such w k) || (any_record w (λ i. no_such_of w i) || any_record w (λ i. lost_taker w i))) (Err NoSuch)
    (cond (any_reached w (λ k. loose w k)) (Err Loose)
    (cond (any_record w (λ i. shared w i) || (any_record w (λ i. misplaced w i) || any_record w (λ i. untold w i))) (Err Muddled) (Ok tt)))))
