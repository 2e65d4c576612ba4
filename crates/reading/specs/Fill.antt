-- Reading a job: a turn for each field, over what reading carries along, the words of the work space, and two lists: the level segments' points, and the
-- joins' points, two by two.
use Rattle.std.specs.Prelude.{ℕ, zero, suc, ◌+◌, ◌*◌, cond, List, [], ◌∷◌, ltb, eqb, length, set, drop, Result, Ok, Err}
use Rattle.job.specs.Field.{field_of}
use Rattle.job.specs.Job.{fresh, past}
use Rattle.job.specs.declared.Job.{Job}
use Rattle.job.specs.declared.refusal.Refusal.TheVariants.{Torn, Strange}
use Rattle.job.specs.declared.field.Field.{Field}
use Rattle.job.specs.declared.field.Field.TheVariants.{Settings, Point, Record, Segment, Join}
use Rattle.job.specs.declared.refusal.Refusal.{Refusal}
use Rattle.store.specs.Field.{pt, rc, X, Y, NEXT, PREV, REC, Z, FLAGS, OWNER, FIRST, REASON, NONE}
use Rattle.store.specs.Words.{Write, write, on_words}
use Rattle.store.specs.Reason.{NO_RING}

-- an outcome, with the words and the two lists that are left
pub data ReadEnd : Type 0 where
  end : Result Job Refusal → List ℕ → List ℕ → List ℕ → ReadEnd

-- point i, a word in each of six columns
abbrev pub put_point : ℕ → ℕ → ℕ → ℕ → ℕ → ℕ → ℕ → List ℕ → List ℕ
put_point i x y next prev rec z w =
    on_words w (write (pt X) i x ∷ write (pt Y) i y ∷ write (pt NEXT) i next ∷ write (pt PREV) i prev ∷ write (pt REC) i rec ∷ write (pt Z) i z ∷ [])

-- why a record has no ring, as the job says it: "no ring in the job", or 0 where it has a first point
abbrev pub reason_read : ℕ → ℕ
reason_read first = cond (eqb first NONE) NO_RING 0

-- record i, a word in each of four
abbrev pub record_read : ℕ → ℕ → ℕ → ℕ → List Write
record_read i flags owner first = write (rc FLAGS) i flags ∷ write (rc OWNER) i owner ∷ write (rc FIRST) i first ∷ write (rc REASON) i (reason_read first) ∷ []

abbrev pub put_record : ℕ → ℕ → ℕ → ℕ → List ℕ → List ℕ
put_record i flags owner first w = on_words w (record_read i flags owner first)

-- join i
abbrev pub put_join : ℕ → ℕ → ℕ → List ℕ → List ℕ
put_join i a b js = set (set js (2 * i) a) (2 * i + 1) b

-- a field of n bytes goes to the next free place of its kind
abbrev pub placed : Field → ℕ → Job → List ℕ → List ℕ → List ℕ → ReadEnd
placed (Settings bits) n j w ss js = end (Ok (past (Settings bits) n j)) w ss js
placed (Point x y next prev rec z) n j w ss js =
    end (Ok (past (Point x y next prev rec z) n j)) (put_point j.points x y next prev rec z w) ss js
placed (Record flags owner first) n j w ss js =
    end (Ok (past (Record flags owner first) n j)) (put_record j.records flags owner first w) ss js
placed (Segment p) n j w ss js = end (Ok (past (Segment p) n j)) w (set ss j.segments p) js
placed (Join a b) n j w ss js = end (Ok (past (Join a b) n j)) w ss (put_join j.joins a b js)

abbrev pub taken : Result (Field × ℕ) Refusal → Job → List ℕ → List ℕ → List ℕ → ReadEnd
taken (Ok (f, n)) j w ss js = placed f n j w ss js
taken (Err r) j w ss js = end (Err r) w ss js

-- a turn: "each field's value is read from the part of the job where it begins"
unfoldable pub turn_of : List ℕ → Job → List ℕ → List ℕ → List ℕ → ReadEnd
turn_of bytes j w ss js = taken (field_of j (drop j.at bytes)) j w ss js

-- a turn's outcome handed on: a refusal ends
abbrev pub follow : (Job → List ℕ → List ℕ → List ℕ → ReadEnd) → ReadEnd → ReadEnd
follow f (end (Ok j) w ss js) = f j w ss js
follow f (end (Err r) w ss js) = end (Err r) w ss js

-- turns up to the end of the job; the first number bounds how many. `fill_of` gives more than there are bytes, and each turn takes some, so it never runs out
unfoldable pub run : ℕ → List ℕ → Job → List ℕ → List ℕ → List ℕ → ReadEnd
run zero bytes j w ss js = end (Err Torn) w ss js
run (suc k) bytes j w ss js =
    let on : ReadEnd = follow (run k bytes) (turn_of bytes j w ss js) in
    cond (ltb j.at (length bytes)) on (end (Ok j) w ss js)

-- row 2: "empty job"; else its fields, one after the other
unfoldable pub fill_of : List ℕ → List ℕ → List ℕ → List ℕ → ReadEnd
fill_of bytes w ss js = cond (eqb (length bytes) 0) (end (Err Strange) w ss js) (run (suc (length bytes)) bytes fresh w ss js)
