-- What a sound store gives: each ring whole, and seen from its first point and its present place; a table of rings handed as a witness is the computed one.
use Prim.Native.Nat.{ℕ, ◌≤◌, ◌<◌}
use mathlib.Core.Path.{◌≡◌, refl, subst}
use mathlib.Core.Bool.{Bool, true, false, cond}
use mathlib.Core.List.{List, [], ◌∷◌}
use native.Mathlib.Omega.{arith}
use lib.Dec.{eqb}
use Rattle.rings.specs.Count.{occ}
use Rattle.rings.specs.Progress.{is_done}
use Rattle.rings.specs.Walk.{run, walk}
use Rattle.rings.specs.Whole.{Whole}
use Rattle.rings.proofs.Counting.{occ_head, sum_term}
use Rattle.rings.proofs.Walking.{ring_is, Seen, seen}
use Rattle.job.specs.Limits as limit
use Rattle.store.specs.Field.{pt, rc, NEXT, PREV, FIRST, PRESENT}
use Rattle.store.specs.Words.{Store}
use Rattle.store.specs.Sound.{pts, recs, ringless, ring_at, due_at, Closed}
use Rattle.store.specs.Good.{Sound}

ring_once : (s : Store) → Sound s → (i : ℕ) → i < recs s → (k : ℕ) → occ k (ring_at s i) ≤ 1
ring_once s o i h k = omega (arith, o.once k, sum_term (recs s) i (λ j. occ k (ring_at s j)) h)

pub whole : (s : Store) → Sound s → (i : ℕ) → i < recs s → Whole (s (pt NEXT)) (s (pt PREV)) (pts s) (ring_at s i)
whole s o i h = record { linked = (o.good i h).linked; once = ring_once s o i h; below = λ k p. ((o.good i h).points_in_lem k p).below }

-- the first point is on the ring
pub first_on : (s : Store) (i : ℕ) → ringless s i ≡ false → 0 < occ (s (rc FIRST) i) (ring_at s i)
unfolding run
first_on s i e =
    let n : ℕ → ℕ = s (pt NEXT) in
    let a : ℕ = s (rc FIRST) i in
    rw e (occ_head a (cond (eqb (n a) a) [] (run n a 2047 (n a))))

-- a ring seen from its first point
pub from_first : (s : Store) (i : ℕ) → ringless s i ≡ false → ring_at s i ≡ walk (s (pt NEXT)) (s (rc FIRST) i)
from_first s i e = rw e

-- seen from its present place
pub present_on : (s : Store) → Sound s → (i : ℕ) → Closed s i → is_done (due_at s i) ≡ false → Seen (s (pt NEXT)) (s (pt PREV)) (pts s) (ring_at s i) (s (rc PRESENT) i)
present_on s o i c d = seen _ _ (pts s) (ring_at s i) (s (rc PRESENT) i) o.few_points (whole s o i c.known) ((o.good i c.known).going c d)

-- ---- a table of rings as a witness

pub data Entered (s : Store) (i : ℕ) : List ℕ → Type 0 where
  no_ring : ringless s i ≡ true → Entered s i []
  a_ring : (l : List ℕ) → ringless s i ≡ false → Whole (s (pt NEXT)) (s (pt PREV)) (pts s) (s (rc FIRST) i ∷ l) → Entered s i (s (rc FIRST) i ∷ l)

-- is the computed one
pub table_is : (s : Store) → pts s ≤ limit.POINTS → (i : ℕ) (c : List ℕ) → Entered s i c → ring_at s i ≡ c
table_is s h i c (no_ring e) = rw e
table_is s h i c (a_ring l e r) = rw e (ring_is _ _ (pts s) _ l h r)

-- and a sound store's computed table is one
pub table_of : (s : Store) → Sound s → (i : ℕ) → i < recs s → Entered s i (ring_at s i)
unfolding run
table_of s o i h = go (ringless s i) refl
  where
    go : (b : Bool) → ringless s i ≡ b → Entered s i (cond b [] (walk (s (pt NEXT)) (s (rc FIRST) i)))
    go true e = no_ring e
    go false e = a_ring _ e (subst (Whole (s (pt NEXT)) (s (pt PREV)) (pts s)) (from_first s i e) (whole s o i h))
