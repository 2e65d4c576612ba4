-- The Rust's primitives on points and records: what each writes, in the program's order, every value read before the first write.
use Rattle.std.specs.Prelude.{ℕ, suc, Bool, cond, List, [], ◌∷◌, ◌++◌, ltb, Option, Some, None}
use Rattle.job.specs.Limits as limit
use Rattle.rings.specs.Progress.{validity}
use Rattle.store.specs.Field.{pt, rc, ct, X, Y, Z, NEXT, PREV, REC, FLAGS, OWNER, FIRST, MARK, PRESENT, START, CUT, POINTS}
use Rattle.store.specs.Words.{Store, view, Write, write, on_words}
use Rattle.store.specs.Named.{points_of}
use Rattle.store.specs.Sound.{pts, mark_of}

-- ---- what is written

-- `new_out_pt`: the words of a point's coordinates and z, and its record, go to place k, the next free one; its links are its callers'
abbrev pub point_writes : ℕ → ℕ → ℕ → ℕ → ℕ → List Write
point_writes k vx vy vz r = write (ct POINTS) 0 (suc k) ∷ write (pt X) k vx ∷ write (pt Y) k vy ∷ write (pt Z) k vz ∷ write (pt REC) k r ∷ []

-- k goes in between p and n
abbrev pub link_writes : ℕ → ℕ → ℕ → List Write
link_writes p k n = write (pt NEXT) k n ∷ write (pt PREV) k p ∷ write (pt NEXT) p k ∷ write (pt PREV) n k ∷ []

-- what was between p and n goes out
abbrev pub unlink_writes : ℕ → ℕ → List Write
unlink_writes p n = write (pt NEXT) p n ∷ write (pt PREV) n p ∷ []

-- record k, the next free one, is a closed ring at its start: its first point is b, its owner o, and it was cut from record i
abbrev pub start_writes : ℕ → ℕ → ℕ → ℕ → List Write
start_writes k o b i =
    write (rc FLAGS) k 0 ∷ write (rc OWNER) k o ∷ write (rc FIRST) k b ∷ write (rc MARK) k (mark_of validity)
    ∷ write (rc PRESENT) k b ∷ write (rc START) k b ∷ write (rc CUT) k i ∷ []

-- a copy of op goes in after it, or before it: "Copies carry z with them"
abbrev pub copy_writes : Store → ℕ → List Write
copy_writes s op = point_writes (pts s) (s (pt X) op) (s (pt Y) op) (s (pt Z) op) (s (pt REC) op)

abbrev pub after_writes : Store → ℕ → List Write
after_writes s op = copy_writes s op ++ link_writes op (pts s) (s (pt NEXT) op)

abbrev pub before_writes : Store → ℕ → List Write
before_writes s op = copy_writes s op ++ link_writes (s (pt PREV) op) (pts s) op

-- ---- the primitives

-- the place that was taken, or that there is no room, and the words left
pub data Taken : Type 0 where
  taken : Option ℕ → List ℕ → Taken

-- where there is room for a point; else nothing changes
abbrev pub if_point : List ℕ → List ℕ → Taken
if_point w w' = cond (ltb (points_of w) limit.POINTS) (taken (Some (points_of w)) w') (taken None w)

-- `duplicate_op`
unfoldable pub duplicate_op : List ℕ → ℕ → Bool → Taken
duplicate_op w op after = if_point w (cond after (on_words w (after_writes (view w) op)) (on_words w (before_writes (view w) op)))
