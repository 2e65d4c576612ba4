-- What a join does, as rings: lists of points, each from its record's first point in walk order. Document 01: "In a join, one record for both points gives a new record owned by
-- the first; two records empty the second, now owned by the first." Here a is op1 and c is op2; s is the store before, u the store after.
use Rattle.std.specs.Prelude.{ℕ, suc, ◌+◌, ◌*◌, ◌<◌, ◌≡◌, ◌≢◌, ◌⊎◌, false, cond, List, [], ◌∷◌, ◌++◌, eqb, ltb, get_or, Ok, Err}
use Rattle.job.specs.Limits as limit
use Rattle.rings.specs.Circle.{turn, rest}
use Rattle.rings.specs.Count.{occ}
use Rattle.store.specs.Field.{pt, rc, X, Y, Z, FLAGS, OWNER, FIRST, REASON, TAKER}
use Rattle.store.specs.Reason.{JOINED}
use Rattle.store.specs.Words.{Store, view}
use Rattle.store.specs.Named.{next_of, records_of}
use Rattle.store.specs.Sound.{pts, recs, ringless, ring_at, is_open}
use Rattle.joins.specs.declared.JoinError.TheVariants.{Knot, Full}
use Rattle.joins.specs.Resolve.{home_of}
use Rattle.joins.specs.Join.{JoinEnd, end, join_of, process_horz_joins}

-- ---- rings as lists

-- the points before x, and those from x on
abbrev pub before : ℕ → List ℕ → List ℕ
before x [] = []
before x (y ∷ l) = cond (eqb y x) [] (y ∷ before x l)

abbrev pub onward : ℕ → List ℕ → List ℕ
onward x [] = []
onward x (y ∷ l) = cond (eqb y x) (y ∷ l) (onward x l)

-- a ring walked from its point x
abbrev pub seen_from : ℕ → List ℕ → List ℕ
seen_from x ring = onward x ring ++ before x ring

-- one ring, from the point after op1 round to op1: the points before op2 go to the new record, op2 and the others stay
abbrev pub goes : ℕ → ℕ → List ℕ → List ℕ
goes a c ring = before c (turn (seen_from a ring))

abbrev pub stays : ℕ → ℕ → List ℕ → List ℕ
stays a c ring = onward c (turn (seen_from a ring))

-- the record's first point f, or op1 if that one went
abbrev pub first_left : ℕ → List ℕ → ℕ → ℕ
first_left a gone f = cond (ltb 0 (occ f gone)) a f

-- two rings: the second, from op2 on, comes in after op1
abbrev pub spliced : ℕ → ℕ → List ℕ → List ℕ → List ℕ
spliced a c one two = before a one ++ (a ∷ seen_from c two ++ rest (onward a one))

-- ---- what is left as it was

-- the points, and the flags of the records that there were
pub record Unmoved (s u : Store) : Type 0 where
  pub points : pts u ≡ pts s
  pub xs : (k : ℕ) → u (pt X) k ≡ s (pt X) k
  pub ys : (k : ℕ) → u (pt Y) k ≡ s (pt Y) k
  pub zs : (k : ℕ) → u (pt Z) k ≡ s (pt Z) k
  pub flags : (j : ℕ) → j < recs s → u (rc FLAGS) j ≡ s (rc FLAGS) j

-- ---- the two cases

-- "one record for both points gives a new record owned by the first": record i, and the new record is the next free one
pub record OneRecord (s u : Store) (a c i : ℕ) : Type 0 where
  pub one_on : 0 < occ a (ring_at s i)
  pub two_on : 0 < occ c (ring_at s i)
  pub records : recs u ≡ suc (recs s)
  -- the new record's ring is what goes, from op1's next; its own is what stays, from its first point
  pub new : ring_at u (recs s) ≡ goes a c (ring_at s i)
  pub own : ring_at u i ≡ seen_from (u (rc FIRST) i) (stays a c (ring_at s i))
  pub first : u (rc FIRST) i ≡ first_left a (goes a c (ring_at s i)) (s (rc FIRST) i)
  pub new_ringed : ringless u (recs s) ≡ false
  pub own_ringed : ringless u i ≡ false
  pub others : (j : ℕ) → j < recs s → j ≢ i → ring_at u j ≡ ring_at s j
  pub owner : u (rc OWNER) (recs s) ≡ i
  pub owners : (j : ℕ) → j < recs s → u (rc OWNER) j ≡ s (rc OWNER) j
  pub reasons : (j : ℕ) → u (rc REASON) j ≡ s (rc REASON) j
  pub takers : (j : ℕ) → u (rc TAKER) j ≡ s (rc TAKER) j
  pub closed : is_open u (recs s) ≡ false
  pub unmoved : Unmoved s u

-- "two records empty the second, now owned by the first": records i and j
pub record TwoRecords (s u : Store) (a c i j : ℕ) : Type 0 where
  pub one_on : 0 < occ a (ring_at s i)
  pub two_on : 0 < occ c (ring_at s j)
  pub records : recs u ≡ recs s
  pub own : ring_at u i ≡ spliced a c (ring_at s i) (ring_at s j)
  pub own_ringed : ringless u i ≡ false
  pub emptied : ring_at u j ≡ []
  pub others : (k : ℕ) → k < recs s → k ≢ i → k ≢ j → ring_at u k ≡ ring_at s k
  pub owner : u (rc OWNER) j ≡ i
  pub owners : (k : ℕ) → k ≢ j → u (rc OWNER) k ≡ s (rc OWNER) k
  -- "joined into another record, with the number of the one that took it in that join"
  pub reason : u (rc REASON) j ≡ JOINED
  pub reasons : (k : ℕ) → k ≢ j → u (rc REASON) k ≡ s (rc REASON) k
  pub taker : u (rc TAKER) j ≡ i
  pub takers : (k : ℕ) → k ≢ j → u (rc TAKER) k ≡ s (rc TAKER) k
  pub unmoved : Unmoved s u

-- ---- a join at its turn

-- the records of the two points are one, or two
abbrev pub OneOrTwo : List ℕ → List ℕ → ℕ → ℕ → ℕ → ℕ → Type 0
OneOrTwo w x a c i j = ((i ≡ j) × OneRecord (view w) (view x) a c i) ⊎ ((i ≢ j) × TwoRecords (view w) (view x) a c i j)

-- rows 9 and 10, which leave all as it was, or one of the two cases
abbrev pub AsRings : List ℕ → ℕ → ℕ → JoinEnd → Type 0
AsRings w a c (end (Err Knot) x) = (x ≡ w) × (next_of w a ≡ c)
AsRings w a c (end (Err Full) x) = (x ≡ w) × (next_of w a ≢ c) × (home_of w a ≡ home_of w c) × (records_of w ≡ limit.RECORDS)
AsRings w a c (end (Ok tt) x) = (next_of w a ≢ c) × OneOrTwo w x a c (home_of w a) (home_of w c)

-- join number k of a list, when the k before it are done and have left x: it is made next, on those words, as above
pub record AtTurn (k : ℕ) (js w x : List ℕ) : Type 0 where
  pub next : process_horz_joins (suc k) js w ≡ join_of x (get_or js (2 * k) 0) (get_or js (2 * k + 1) 0)
  pub rings : AsRings x (get_or js (2 * k) 0) (get_or js (2 * k + 1) 0) (join_of x (get_or js (2 * k) 0) (get_or js (2 * k + 1) 0))
