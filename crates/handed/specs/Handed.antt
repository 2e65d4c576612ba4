-- What every call on an opened work space finds out first: row 10's length, "tested first of all, by every call"; then the tests of the live block, rows 3 to 7; and last
-- document 02's two tests of 7: that each ring's box stands beside it, and that no name is kept twice.
use Rattle.std.specs.Prelude.{ℕ, ◌≤◌, ◌<◌, Bool, cond, List, ltb, length, Result, Ok, Err}
use Rattle.job.specs.declared.refusal.Refusal.{Refusal}
use Rattle.job.specs.declared.refusal.Refusal.TheVariants.{Muddled, Full}
use Rattle.store.specs.Field.{STATES, LENGTH}
use Rattle.store.specs.Words.{view}
use Rattle.store.specs.Good.{Sound}
use Rattle.store.specs.Named.{records_of}
use Rattle.store.specs.Boxes.{misboxed, Boxed}
use Rattle.store.specs.States.{same_name, Apart}
use Rattle.audit.specs.Tests.{any_below, any_record, tests_of}

-- "A work space whose box isn't its ring's meets 7"
unfoldable pub any_misboxed : List ℕ → Bool
any_misboxed w = any_record w (misboxed w)

-- where the tests of the live block passed
abbrev pub boxes_tested : List ℕ → Result (Unit {0}) Refusal → Result (Unit {0}) Refusal
boxes_tested w (Err r) = Err r
boxes_tested w (Ok _) = cond (any_misboxed w) (Err Muddled) (Ok tt)

-- "A work space keeping one name twice meets 7"
unfoldable pub kept_twice : List ℕ → Bool
kept_twice w = any_below STATES (λ q. any_below q (λ p. same_name w p q))

-- the last test, where all before it passed
abbrev pub names_tested : List ℕ → Result (Unit {0}) Refusal → Result (Unit {0}) Refusal
names_tested w (Err r) = Err r
names_tested w (Ok _) = cond (kept_twice w) (Err Muddled) (Ok tt)

-- `tested`: without the length, for a call that is lent two work spaces and asks both lengths first
unfoldable pub tested_of : List ℕ → Result (Unit {0}) Refusal
tested_of w = names_tested w (boxes_tested w (tests_of w))

-- `handed`
unfoldable pub handed_of : List ℕ → Result (Unit {0}) Refusal
handed_of w = cond (ltb (length w) LENGTH) (Err Full) (tested_of w)

-- what it decides: long enough, the live block sound, each ring's box beside it, no name kept twice
pub record Usable (w : List ℕ) : Type 0 where
  pub long : LENGTH ≤ length w
  pub sound : Sound (view w)
  pub boxed : (i : ℕ) → i < records_of w → Boxed w i
  pub apart : Apart w
