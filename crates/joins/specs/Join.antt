-- Joins (`process_horz_joins`), as equations over the words: document 01, "Segment and join".
use Rattle.std.specs.Prelude.{ℕ, zero, suc, ◌+◌, ◌*◌, cond, List, [], ◌∷◌, ltb, eqb, get_or, Result, Ok, Err}
use Rattle.job.specs.Limits as limit
use Rattle.store.specs.Field.{pt, rc, ct, NEXT, PREV, REC, FLAGS, OWNER, FIRST, REASON, TAKER, RECORDS, NONE}
use Rattle.store.specs.Reason.{JOINED}
use Rattle.store.specs.Words.{Store, view, Write, write, on_words}
use Rattle.store.specs.Named.{next_of, rec_of, first_of, records_of, set_rec}
use Rattle.store.specs.Sound.{ring_at}
use Rattle.joins.specs.declared.JoinError.{JoinError}
use Rattle.joins.specs.declared.JoinError.TheVariants.{Knot, Full}
use Rattle.joins.specs.Resolve.{home_of}

-- the answer, and the words that it leaves
pub data JoinEnd : Type 0 where
  end : Result (Unit {0}) JoinError → List ℕ → JoinEnd

-- ---- what is written, in the program's order, every value read before the first write

-- op1.next = op2, op2.prev = op1, op1b.prev = op2b, op2b.next = op1b
abbrev pub relink_writes : Store → ℕ → ℕ → List Write
relink_writes s a c =
    write (pt NEXT) a c ∷ write (pt PREV) c a ∷ write (pt PREV) (s (pt NEXT) a) (s (pt PREV) c) ∷ write (pt NEXT) (s (pt PREV) c) (s (pt NEXT) a) ∷ []

-- record k, the next free one: closed, no front edge, first point n, owner i
abbrev pub made_writes : ℕ → ℕ → ℕ → List Write
made_writes k n i = write (ct RECORDS) 0 (k + 1) ∷ write (rc FLAGS) k 0 ∷ write (rc FIRST) k n ∷ write (rc OWNER) k i ∷ []

-- record j is emptied, and owned by i, which took it
abbrev pub empty_writes : ℕ → ℕ → List Write
empty_writes j i = write (rc FIRST) j NONE ∷ write (rc OWNER) j i ∷ write (rc REASON) j JOINED ∷ write (rc TAKER) j i ∷ []

-- the first point of record i is a, which names it
abbrev pub first_writes : ℕ → ℕ → List Write
first_writes i a = write (rc FIRST) i a ∷ write (pt REC) a i ∷ []

-- ---- the functions

-- the four links of a join
unfoldable pub relink_of : List ℕ → ℕ → ℕ → List ℕ
relink_of w a c = on_words w (relink_writes (view w) a c)

-- new_out_rec, as a join fills it
unfoldable pub new_out_rec : List ℕ → ℕ → ℕ → ℕ → List ℕ
new_out_rec w k n i = on_words w (made_writes k n i)

-- the points of l name record k
unfoldable pub name_all : List ℕ → ℕ → List ℕ → List ℕ
name_all w k [] = w
name_all w k (x ∷ l) = name_all (set_rec w x k) k l

-- fix_outrec_pts: the points of record k's ring name it
unfoldable pub fix_outrec_pts : List ℕ → ℕ → List ℕ
fix_outrec_pts w k = name_all w k (ring_at (view w) k)

-- the first point of record i, if it went to record k, is a
unfoldable pub move_first : List ℕ → ℕ → ℕ → ℕ → List ℕ
move_first w i k a = cond (eqb (rec_of w (first_of w i)) k) (on_words w (first_writes i a)) w

-- "one record for both points gives a new record owned by the first": the ring is split, and record k takes the part that starts at op1b
unfoldable pub split_ring : List ℕ → ℕ → ℕ → ℕ → ℕ → List ℕ
split_ring w a c i k = move_first (fix_outrec_pts (new_out_rec (relink_of w a c) k (next_of w a) i) k) i k a

-- if there is room for a record
unfoldable pub split_of : List ℕ → ℕ → ℕ → ℕ → JoinEnd
split_of w a c i = cond (ltb (records_of w) limit.RECORDS) (end (Ok tt) (split_ring w a c i (records_of w))) (end (Err Full) w)

-- "two records empty the second, now owned by the first"
unfoldable pub merge_of : List ℕ → ℕ → ℕ → ℕ → ℕ → List ℕ
merge_of w a c i j = on_words (relink_of w a c) (empty_writes j i)

unfoldable pub by_records : List ℕ → ℕ → ℕ → ℕ → ℕ → JoinEnd
by_records w a c i j = cond (eqb i j) (split_of w a c i) (end (Ok tt) (merge_of w a c i j))

-- a join of op1 = a and op2 = c at its turn: a knot where a's next is c already
unfoldable pub join_of : List ℕ → ℕ → ℕ → JoinEnd
join_of w a c = cond (eqb (next_of w a) c) (end (Err Knot) w) (by_records w a c (home_of w a) (home_of w c))

-- the rest of the joins, unless one was refused
abbrev pub follow : (List ℕ → JoinEnd) → JoinEnd → JoinEnd
follow k (end (Ok tt) w) = k w
follow k (end (Err e) w) = end (Err e) w

-- f joins from number i on; js holds their points two by two
unfoldable pub joins_from : ℕ → ℕ → List ℕ → List ℕ → JoinEnd
joins_from zero i js w = end (Ok tt) w
joins_from (suc f) i js w = follow (joins_from f (i + 1) js) (join_of w (get_or js (2 * i) 0) (get_or js (2 * i + 1) 0))

-- process_horz_joins over n joins
abbrev pub process_horz_joins : ℕ → List ℕ → List ℕ → JoinEnd
process_horz_joins n js w = joins_from n 0 js w
