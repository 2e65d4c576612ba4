-- What the functions of this crate ask, and the table that makes the mender linear; no statement needs it.
use Rattle.std.specs.Prelude.{ℕ, zero, suc, ◌+◌, ◌<◌, ◌≤◌, Bool, not, ◌||◌, List, eqb, length, get_or, set}
use Rattle.job.specs.Limits as limit
use Rattle.job.specs.Limits.{NONE}
use Rattle.store.specs.Field.{BLOCK}
use Rattle.store.specs.Named.{points_of, next_of}
use Rattle.mending.specs.Mend.{prev_at}

-- of each point, the last of the first k points whose next it is
abbrev pub table_of : (ℕ → ℕ) → ℕ → List ℕ → List ℕ
table_of next zero t = t
table_of next (suc k) t = set (table_of next k t) (next k) k

-- the number in place k of a table; none past its end
unfoldable pub table_at : List ℕ → ℕ → ℕ
table_at t k = get_or t k NONE

-- point k has none before it, or is not the one before its next
abbrev pub spoilt : List ℕ → List ℕ → ℕ → Bool
spoilt w t k = eqb (table_at t k) NONE || not (eqb (table_at t (next_of w k)) k)

-- a job with n points, within the limit, and the prev of each
pub record Roomy (bytes : List ℕ) (n : ℕ) : Type 0 where
  pub few : n ≤ limit.POINTS
  pub room : (k : ℕ) → k < n → prev_at k + 2 ≤ length bytes

-- words that may be mended from: within the limits, and every next names a point
pub record Fixable (bytes w : List ℕ) : Type 0 where
  pub long : BLOCK ≤ length w
  pub named : (k : ℕ) → k < points_of w → next_of w k < points_of w
  pub roomy : Roomy bytes (points_of w)
