-- What each act writes, in the program's order; each value is read before the first write. (vx, vy, vz) are the words of a new point's value.
-- The act's rule on words is `on_words w (writes (view w) ..)`.
use Rattle.std.specs.Prelude.{ℕ, suc, cond, List, [], ◌∷◌, ◌++◌, eqb}
use Rattle.rings.specs.Progress.{Due, done, Discard}
use Rattle.store.specs.Field.{pt, rc, ct, NEXT, PREV, REC, OWNER, FIRST, MARK, PRESENT, START, REASON, RECORDS, NONE}
use Rattle.store.specs.Reason.{reason_number}
use Rattle.store.specs.Sound.{pts, recs, mark_of}
use Rattle.store.specs.Words.{Store, Write, write}
use Rattle.primitives.specs.Primitive.{point_writes, link_writes, unlink_writes, start_writes}

-- the present place's next becomes the present place
abbrev pub move_writes : Store → ℕ → Due → List Write
move_writes s i d = write (rc PRESENT) i (s (pt NEXT) (s (rc PRESENT) i)) ∷ write (rc MARK) i (mark_of d) ∷ []

-- a loop begins, or none does: present place and start are the first point
abbrev pub to_first_writes : Store → ℕ → Due → List Write
to_first_writes s i d = write (rc PRESENT) i (s (rc FIRST) i) ∷ write (rc START) i (s (rc FIRST) i) ∷ write (rc MARK) i (mark_of d) ∷ []

-- the record is emptied, and keeps which rule said so
abbrev pub discard_writes : ℕ → Discard → List Write
discard_writes i y = write (rc FIRST) i NONE ∷ write (rc MARK) i (mark_of done) ∷ write (rc REASON) i (reason_number y) ∷ []

-- a new point k between p and n
abbrev pub put_writes : ℕ → ℕ → ℕ → ℕ → ℕ → ℕ → ℕ → List Write
put_writes k vx vy vz r p n = point_writes k vx vy vz r ++ link_writes p k n

-- the present point x goes out, between p and n; a first point that was x is p then
abbrev pub drop_writes : Store → ℕ → List Write
drop_writes s i =
    let x : ℕ = s (rc PRESENT) i in
    let n : ℕ = s (pt NEXT) x in
    let p : ℕ = s (pt PREV) x in
    write (rc FIRST) i (cond (eqb (s (rc FIRST) i) x) p (s (rc FIRST) i)) ∷ unlink_writes p n ++ (write (rc PRESENT) i n ∷ write (rc START) i n ∷ [])

-- a new point k goes in before the present point x, after p
abbrev pub double_writes : Store → ℕ → ℕ → ℕ → ℕ → Due → List Write
double_writes s i vx vy vz d =
    let x : ℕ = s (rc PRESENT) i in
    let p : ℕ = s (pt PREV) x in
    let k : ℕ = pts s in
    put_writes k vx vy vz (s (pt REC) x) p x ++ (write (rc MARK) i (mark_of d) ∷ [])

-- first point and present place are p
abbrev pub place_writes : ℕ → ℕ → Due → List Write
place_writes i p d = write (rc FIRST) i p ∷ write (rc PRESENT) i p ∷ write (rc MARK) i (mark_of d) ∷ []

-- x and y, the present point and the next, go out, between p and z
abbrev pub cut_writes : Store → ℕ → Due → List Write
cut_writes s i d =
    let x : ℕ = s (rc PRESENT) i in
    let p : ℕ = s (pt PREV) x in
    let z : ℕ = s (pt NEXT) (s (pt NEXT) x) in
    unlink_writes p z ++ place_writes i p d

-- and a new point k goes in in their place
abbrev pub cut_put_writes : Store → ℕ → ℕ → ℕ → ℕ → Due → List Write
cut_put_writes s i vx vy vz d =
    let x : ℕ = s (rc PRESENT) i in
    let p : ℕ = s (pt PREV) x in
    let z : ℕ = s (pt NEXT) (s (pt NEXT) x) in
    let k : ℕ = pts s in
    put_writes k vx vy vz (s (pt REC) p) p z ++ place_writes i p d

-- a record r is taken for x and y
abbrev pub record_writes : ℕ → ℕ → ℕ → List Write
record_writes r x y = write (ct RECORDS) 0 (suc r) ∷ write (pt REC) x r ∷ write (pt REC) y r ∷ []

-- x and y, linked already, and a new point b between them become the ring of a new record cut from record i
abbrev pub offcut_writes : Store → ℕ → ℕ → ℕ → ℕ → ℕ → ℕ → List Write
offcut_writes s i x y vx vy vz = record_writes (recs s) x y ++ (put_writes (pts s) vx vy vz (recs s) y x ++ start_writes (recs s) (s (rc OWNER) i) (pts s) i)
