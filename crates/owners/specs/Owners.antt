-- Owner chains of a job that is not yet known to be sound: does one end?
use Rattle.std.specs.Prelude.{ℕ, zero, suc, Bool, true, false, cond, not, ◌&&◌, ◌||◌, List, eqb, leb}
use Rattle.job.specs.Limits.{RECORDS}
use Rattle.store.specs.Field.{rc, OWNER, FIRST, NONE}
use Rattle.store.specs.Words.{view}

-- the chain from r comes to none within f owners
unfoldable pub ends_in : ℕ → (ℕ → ℕ) → ℕ → Bool
ends_in zero owner r = false
ends_in (suc f) owner r = let on : Bool = ends_in f owner (owner r) in cond (eqb (owner r) NONE) true on

-- row 7: "an owner chain circles": it has not ended after as many owners as there may be records
abbrev pub circles : List ℕ → ℕ → Bool
circles w i = not (ends_in RECORDS (view w (rc OWNER)) i)

-- record i has no ring, or an owner that is not before it; where there is none such, no chain circles and each record with a ring resolves to itself
abbrev pub chained : List ℕ → ℕ → Bool
chained w i = eqb (view w (rc FIRST) i) NONE || (not (eqb (view w (rc OWNER) i) NONE) && leb i (view w (rc OWNER) i))
