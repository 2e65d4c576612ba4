-- Tables of what is known of owner chains, so that each is followed once.
use Rattle.std.specs.Prelude.{ℕ, ◌<◌, ◌≤◌, ◌≡◌, ◌≢◌, not, List, leb, length, get_or}
use Rattle.job.specs.Limits.{RECORDS}
use Rattle.store.specs.Named.{owner_of}
use Rattle.joins.specs.Resolve.{get_real_outrec}
use Rattle.owners.specs.Owners.{ends_in, circles}

-- nothing is known of a record; no record has this number, and no chain this length
abbrev pub UNKNOWN : ℕ
UNKNOWN = 65536

-- a table's number of record r
abbrev pub entry : List ℕ → ℕ → ℕ
entry t r = get_or t r UNKNOWN

-- the chain from r comes to none after d owners, and not before
pub record Long (w : List ℕ) (r d : ℕ) : Type 0 where
  pub ends : (f : ℕ) → ends_in f (owner_of w) r ≡ leb d f

-- the table of lengths: a record's number is how long its chain is
pub record Lengths (w ls : List ℕ) : Type 0 where
  pub few : (r : ℕ) → entry ls r ≢ UNKNOWN → entry ls r ≤ RECORDS
  pub known : (r : ℕ) → entry ls r ≢ UNKNOWN → Long w r (entry ls r)

-- what following the chain from i finds: its length; or more than there may be records, if it circles
pub record Followed (w : List ℕ) (i n : ℕ) : Type 0 where
  pub circle : circles w i ≡ not (leb n RECORDS)
  pub long : n ≤ RECORDS → Long w i n

-- the table of homes: a record's number is what it resolves to
pub record Homes (w hs : List ℕ) : Type 0 where
  pub known : (r : ℕ) → entry hs r ≢ UNKNOWN → entry hs r ≡ get_real_outrec w r

-- after record r's home was written down along its chain: r has it, and what was known still is
pub record Noted (w hs : List ℕ) (r : ℕ) (hs' : List ℕ) : Type 0 where
  pub homes : Homes w hs'
  pub kept : (x : ℕ) → entry hs x ≡ get_real_outrec w x → entry hs' x ≡ get_real_outrec w x
  pub here : r < length hs → entry hs' r ≡ get_real_outrec w r

-- the home of every record below n is in the table
pub record Found (w hs : List ℕ) (n : ℕ) : Type 0 where
  pub homes : Homes w hs
  pub each : (r : ℕ) → r < n → entry hs r ≡ get_real_outrec w r
