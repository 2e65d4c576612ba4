-- The tests as the code goes through them at once: what a round along a ring finds, a record, and all of them.
use Rattle.std.specs.Prelude.{ℕ, ◌≡◌, Bool, true, false, not, ◌&&◌, ◌||◌, List, ltb, Ok}
use Rattle.std.proofs.Math.Option.{some}
use Rattle.job.specs.Limits as limit
use Rattle.store.specs.declared.boxed.Sides.{Sides}
use Rattle.store.specs.Words.{view}
use Rattle.store.specs.Sound.{is_open}
use Rattle.store.specs.Boxes.{rect_of, misboxed}
use Rattle.store.specs.Named.{points_of, next_of, first_of, progress_of, ring_of}
use Rattle.bounds.specs.Along.{box_from}
use Rattle.handed.specs.Handed.{any_misboxed}
use Rattle.audit.specs.Tests.{is_in, any_below, no_such_of, lost_taker, misplaced, untold, tests_of}
use Rattle.audit.specs.Marks.{is_marked, mark_from, marks_by, meets, faulty}

-- each point that was marked since passes
pub record Tried (w ms ms' : List ℕ) : Type 0 where
  pub good : (k : ℕ) → is_marked ms' k ≡ true → is_marked ms k ≡ false → faulty w k ≡ false

-- what is known where a look found nothing
pub record Unless (found : Bool) (P : Type 0) : Type 0 where
  pub none : found ≡ false → P

-- `misplaced` of a record with a ring, where it is known whether its present place is on it
abbrev pub misplaced_if : List ℕ → ℕ → Bool → Bool
misplaced_if w i on = not (is_open (view w) i) && (ltb 4 (progress_of w i) || (ltb (progress_of w i) 4 && not on))

-- a record fails one of its four tests: numbers, taker, progress, reason
abbrev pub faulty_of : List ℕ → ℕ → Bool
faulty_of w i = no_such_of w i || (lost_taker w i || (misplaced w i || untold w i))

-- what a round from a that looks for k comes to: its points are marked and pass, e is whether k is on the ring that starts there, and b is its box
pub record RoundPassed (w ms : List ℕ) (a k : ℕ) (ms' : List ℕ) (e : Bool) (b : Sides) : Type 0 where
  pub marks : ms' ≡ mark_from limit.POINTS (next_of w) (points_of w) ms a
  pub tried : Tried w ms ms'
  pub met : e ≡ is_in k (ring_of w a)
  pub box : box_from (view w) a ≡ some (rect_of b)

-- the points of record i's ring pass, its progress has a meaning, and its box stands beside it
pub record RingPassed (w ms : List ℕ) (i : ℕ) (ms' : List ℕ) : Type 0 where
  pub marks : ms' ≡ mark_from limit.POINTS (next_of w) (points_of w) ms (first_of w i)
  pub tried : Tried w ms ms'
  pub placed : misplaced w i ≡ false
  pub boxed : misboxed w i ≡ false

-- record i passes, and its ring is no earlier record's
pub record RecordPassed (w ms : List ℕ) (i : ℕ) (ms' : List ℕ) : Type 0 where
  pub marks : ms' ≡ mark_from limit.POINTS (next_of w) (points_of w) ms (first_of w i)
  pub apart : is_marked ms (first_of w i) ≡ false
  pub tried : Tried w ms ms'
  pub fit : faulty_of w i ≡ false
  pub boxed : misboxed w i ≡ false

-- so of the records below i
pub record RecordsPassed (w ms : List ℕ) (i : ℕ) (ms' : List ℕ) : Type 0 where
  pub marks : ms' ≡ marks_by w ms i
  pub apart : any_below i (meets w ms) ≡ false
  pub tried : Tried w ms ms'
  pub fit : any_below i (faulty_of w) ≡ false
  pub boxed : any_below i (misboxed w) ≡ false

-- what a look at everything at once finds: if nothing fails, the work space passes and each ring's box stands beside it
pub record Looked (w : List ℕ) (r : Bool) : Type 0 where
  pub passes : r ≡ true → tests_of w ≡ Ok tt
  pub boxed : r ≡ true → any_misboxed w ≡ false
