-- What the invariant gives: the table of rings, the ring that a point is on, and its neighbours there.
use Prim.Native.Nat.{ℕ, ◌≤◌, ◌<◌}
use mathlib.Core.Path.{◌≡◌, ◌∙◌, subst}
use mathlib.Core.Logic.{◌≢◌, inl, inr}
use native.Mathlib.Omega.{arith}
use native.Mathlib.Decide.{ℕ_discrete}
use borrow.Author.Tests.{eq-eqb, ne_eqb}
use Rattle.rings.specs.Count.{occ}
use Rattle.rings.specs.Whole.{Whole}
use Rattle.rings.specs.Table.{Table, Starts, nowhere, on_it}
use Rattle.rings.proofs.Members as members
use Rattle.rings.proofs.Members.{From}
use Rattle.rings.proofs.Tables.{found, once_by}
use Rattle.store.specs.Field.{pt, rc, NEXT, PREV, REC, FIRST, REASON, TAKER, NONE}
use Rattle.store.specs.Words.{Store}
use Rattle.store.specs.Sound.{pts, recs, ring_at}
use Rattle.store.proofs.Soundness.{first_on}
use Rattle.joins.specs.Paths.{Lives}
use Rattle.joins.specs.Resolved.{Emptied, Resolved}
use Rattle.joins.proofs.Resolving.{res_same}

-- a record's first point is on its ring, if it has one
pub starts : (s : Store) (i : ℕ) → Starts (s (rc FIRST) i) (ring_at s i)
starts s i = go (ℕ_discrete (s (rc FIRST) i) NONE)
  where
    go : Dec (s (rc FIRST) i ≡ NONE) → Starts (s (rc FIRST) i) (ring_at s i)
    go (yes e) = nowhere e (rw (eq-eqb (s (rc FIRST) i) NONE e))
    go (no d) = on_it d (first_on s i (ne_eqb (s (rc FIRST) i) NONE d))

-- why a record has no ring stays, where its words do
pub emptied_kept : (s u : Store) (i : ℕ) → u (rc REASON) i ≡ s (rc REASON) i → u (rc TAKER) i ≡ s (rc TAKER) i → recs s ≤ recs u → Emptied s i → Emptied u i
emptied_kept s u i a b m (inl e) = inl (a ∙ e)
emptied_kept s u i a b m (inr e) = inr (a ∙ e.0, omega (arith, e.1, b))

module _ (s : Store) (o : Resolved s) where
  only : (i j k : ℕ) → i < recs s → j < recs s → 0 < occ k (ring_at s i) → 0 < occ k (ring_at s j) → i ≡ j
  only i j k hi hj a b = res_same s (s (pt REC) k) i j (o.home i k hi a) (o.home j k hj b)

  -- no two records share a ring
  pub table : Table (s (pt NEXT)) (s (pt PREV)) (pts s) (recs s) (ring_at s)
  table = record { whole = o.whole; once = once_by (ring_at s) (recs s) (λ i k h. (o.whole i h).once k) only }

  pub lives_on : (i k : ℕ) → i < recs s → 0 < occ k (ring_at s i) → Lives s i k
  lives_on i k h a = record { bound = (o.whole i h).below k a; res = o.home i k h a }

  -- every point has a record
  pub home_of_lem : (k : ℕ) → k < pts s → (i : ℕ) × Lives s i k
  home_of_lem k h =
      let f = found (ring_at s) (recs s) k (o.placed k h) in
      (f.at, lives_on f.at k f.low f.here)

  -- and is on its ring
  pub on_ring_lem : (i k : ℕ) → Lives s i k → 0 < occ k (ring_at s i)
  on_ring_lem i k z =
      let f = found (ring_at s) (recs s) k (o.placed k z.bound) in
      let e : f.at ≡ i = res_same s (s (pt REC) k) f.at i (o.home f.at k f.low f.here) z.res in
      subst (λ (j : ℕ). 0 < occ k (ring_at s j)) e f.here

  pub first_lives : (i : ℕ) → i < recs s → s (rc FIRST) i ≢ NONE → Lives s i (s (rc FIRST) i)
  first_lives i h d = lives_on i (s (rc FIRST) i) h (first_on s i (ne_eqb (s (rc FIRST) i) NONE d))

  module _ (i k : ℕ) (z : Lives s i k) where
    abbrev ring : Whole (s (pt NEXT)) (s (pt PREV)) (pts s) (ring_at s i)
    ring = o.whole i z.res.real

    -- its ring, seen from it
    pub from : From (s (pt NEXT)) (s (pt PREV)) (pts s) (ring_at s i) ring k (on_ring_lem i k z)
    from = members.from (s (pt NEXT)) (s (pt PREV)) (pts s) (ring_at s i) ring k (on_ring_lem i k z)

    pub next_lives : Lives s i (s (pt NEXT) k)
    next_lives = lives_on i (s (pt NEXT) k) z.res.real (members.next_on (s (pt NEXT)) (s (pt PREV)) (pts s) (ring_at s i) ring k (on_ring_lem i k z))

    pub prev_lives : Lives s i (s (pt PREV) k)
    prev_lives = lives_on i (s (pt PREV) k) z.res.real (members.prev_on (s (pt NEXT)) (s (pt PREV)) (pts s) (ring_at s i) ring k (on_ring_lem i k z))

    pub next_prev : s (pt NEXT) (s (pt PREV) k) ≡ k
    next_prev = members.next_prev (s (pt NEXT)) (s (pt PREV)) (pts s) (ring_at s i) ring k (on_ring_lem i k z)

    pub prev_next : s (pt PREV) (s (pt NEXT) k) ≡ k
    prev_next = members.prev_next (s (pt NEXT)) (s (pt PREV)) (pts s) (ring_at s i) ring k (on_ring_lem i k z)
