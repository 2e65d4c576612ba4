-- The tests as the code goes through them in order: one mark for each point, set by the walks.
use Rattle.std.specs.Prelude.{ℕ, zero, suc, ◌≤◌, ◌≡◌, Bool, false, cond, not, ◌&&◌, ◌||◌, List, eqb, ltb, length, get_or, set}
use Rattle.std.specs.Prelude.{Err, Ok, Result}
use Rattle.job.specs.Limits as limit
use Rattle.job.specs.declared.refusal.Refusal.{Refusal}
use Rattle.job.specs.declared.refusal.Refusal.TheVariants.{OffTheTable, NoSuch, Loose, Muddled}
use Rattle.store.specs.Field.{BLOCK}
use Rattle.store.specs.Named.{points_of, records_of, next_of, prev_of, rec_of, first_of}
use Rattle.audit.specs.Tests.{any_below, any_record, off_table, no_such, loose, no_such_of, lost_taker, misplaced, untold}

-- a work space whose counts are within the limits
pub record Counted (w : List ℕ) : Type 0 where
  pub long : BLOCK ≤ length w
  pub points : points_of w ≤ limit.POINTS
  pub records : records_of w ≤ limit.RECORDS

-- a marked point
abbrev pub is_marked : List ℕ → ℕ → Bool
is_marked ms k = not (eqb (get_or ms k 0) 0)

-- marks with a place for each point, and for no more than a job may have; none of them set
pub record Clear (w ms : List ℕ) : Type 0 where
  pub room : points_of w ≤ length ms
  pub short : length ms ≤ limit.POINTS
  pub none : (k : ℕ) → is_marked ms k ≡ false

-- the marks after a walk from a that ends at a number that names no point, or at a marked point
unfoldable pub mark_from : ℕ → (ℕ → ℕ) → ℕ → List ℕ → ℕ → List ℕ
mark_from zero next m ms a = ms
mark_from (suc f) next m ms a = cond (ltb a m && not (is_marked ms a)) (mark_from f next m (set ms a 1) (next a)) ms

-- the marks after the walks from the first points of the records below i
unfoldable pub marks_by : List ℕ → List ℕ → ℕ → List ℕ
marks_by w ms zero = ms
marks_by w ms (suc i) = mark_from limit.POINTS (next_of w) (points_of w) (marks_by w ms i) (first_of w i)

-- record i's first point was marked by the walks before
abbrev pub meets : List ℕ → List ℕ → ℕ → Bool
meets w ms i = is_marked (marks_by w ms i) (first_of w i)

-- what `mark_all` leaves: the marks of every reached point, and whether two records share a ring
pub record AllMarked (w ms ms' : List ℕ) (r : Bool) : Type 0 where
  pub marks : ms' ≡ marks_by w ms (records_of w)
  pub shares : r ≡ any_below (records_of w) (λ i. meets w ms i)

-- a point fails a test that a round asks: its next, record, prev of next, and coordinates
abbrev pub faulty : List ℕ → ℕ → Bool
faulty w k =
    not (ltb (next_of w k) (points_of w))
    || (not (ltb (rec_of w k) (records_of w)) || (not (eqb (prev_of w (next_of w k)) k) || off_table w k))

-- a marked point fails the test
abbrev pub any_marked : List ℕ → List ℕ → (ℕ → Bool) → Bool
any_marked w ms q = any_below (points_of w) (λ k. is_marked ms k && q k)

-- the tests by the marks; whether records share a ring is known by then
unfoldable pub links_of : List ℕ → List ℕ → Bool → Result (Unit {0}) Refusal
links_of w ms shares =
    cond (any_marked w ms (λ k. no_such w k) || (any_record w (λ i. no_such_of w i) || any_record w (λ i. lost_taker w i))) (Err NoSuch)
    (cond (any_marked w ms (λ k. loose w k)) (Err Loose)
    (cond (shares || (any_record w (λ i. misplaced w i) || any_record w (λ i. untold w i))) (Err Muddled) (Ok tt)))

abbrev pub passes_of : List ℕ → List ℕ → Bool → Result (Unit {0}) Refusal
passes_of w ms shares = cond (any_marked w ms (λ k. off_table w k)) (Err OffTheTable) (links_of w ms shares)
