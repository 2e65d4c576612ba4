-- What rows 4 to 8 have found out of a job that passes them.
use Rattle.std.specs.Prelude.{ℕ, ◌*◌, ◌≤◌, ◌≡◌, Bool, false, cond, ◌||◌, List, length, Result, Ok, Err}
use Rattle.job.specs.Limits.{POINTS, RECORDS}
use Rattle.job.specs.declared.refusal.Refusal.{Refusal}
use Rattle.job.specs.declared.refusal.Refusal.TheVariants.{OffTheTable, NoSuch, Muddled, OpenEdge}
use Rattle.store.specs.Field.{BLOCK}
use Rattle.store.specs.Named.{points_of, records_of}
use Rattle.audit.specs.Tests.{any_below, off_table, no_such, no_such_of, loose}
use Rattle.rows.specs.Rows.{loose_link, muddled, no_such_number, off_the_table, open_edge, unnamed}

-- rows 4 and 5, which ask nothing of links and rings
abbrev pub first_rows : List ℕ → List ℕ → ℕ → List ℕ → ℕ → Result (Unit {0}) Refusal
first_rows w ss m js n = cond (off_the_table w) (Err OffTheTable) (cond (no_such_number w ss m js n) (Err NoSuch) (Ok tt))

-- point k fails what row 4, 5 or 6 asks of it
abbrev pub faulty_point : List ℕ → ℕ → Bool
faulty_point w k = off_table w k || (no_such w k || loose w k)

-- row 5 of all but points
abbrev pub no_such_beside : List ℕ → List ℕ → ℕ → List ℕ → ℕ → Bool
no_such_beside w ss m js n = any_below (records_of w) (λ i. no_such_of w i) || (unnamed w ss m || unnamed w js (2 * n))

-- rows 7 and 8
abbrev pub last_rows : List ℕ → List ℕ → ℕ → List ℕ → ℕ → Result (Unit {0}) Refusal
last_rows w ss m js n = cond (muddled w) (Err Muddled) (cond (open_edge w ss m js n) (Err OpenEdge) (Ok tt))

-- a job that was read: counts within the limits, and the lists as long as they say
pub record Filled (w ss : List ℕ) (m : ℕ) (js : List ℕ) (n : ℕ) : Type 0 where
  pub long : BLOCK ≤ length w
  pub points : points_of w ≤ POINTS
  pub records : records_of w ≤ RECORDS
  pub segments : m ≤ length ss
  pub joins : 2 * n ≤ length js

-- the rows that a job passed
pub record Clear (w ss : List ℕ) (m : ℕ) (js : List ℕ) (n : ℕ) : Type 0 where
  pub on_the_table : off_the_table w ≡ false
  pub numbers : no_such_number w ss m js n ≡ false
  pub links : loose_link w ≡ false
  pub rings : muddled w ≡ false
  pub edges : open_edge w ss m js n ≡ false

-- row 7 has passed, and the first n numbers of a list name points
pub record Named (w l : List ℕ) (n : ℕ) : Type 0 where
  pub long : BLOCK ≤ length w
  pub clear : muddled w ≡ false
  pub fits : n ≤ length l
  pub named : unnamed w l n ≡ false
