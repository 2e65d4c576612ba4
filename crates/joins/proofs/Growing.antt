-- A new point keeps the invariant: the next free place goes in before q, with the coordinates and the record of a point of q's ring.
use Prim.Native.Nat.{ℕ, suc, ◌+◌, ◌*◌, ◌≤◌, ◌<◌}
use mathlib.Core.Path.{◌≡◌, ap, ◌∙◌, sym, subst}
use mathlib.Core.Logic.{◌≢◌}
use mathlib.Core.List.{List, ◌∷◌}
use native.Mathlib.Omega.{arith}
use native.Mathlib.Decide.{ℕ_discrete, dec_lt}
use borrow.Author.Tests.{eq-eqb, ne_eqb}
use Rattle.job.specs.Limits as limit
use Rattle.rings.specs.Count.{one, occ}
use Rattle.rings.specs.Relink.{Inserted}
use Rattle.rings.specs.Table.{Table, with, Starts, nowhere, on_it}
use Rattle.rings.specs.Table as rings
use Rattle.rings.proofs.Counting.{all_in, one_else, one_here}
use Rattle.rings.proofs.Tables.{found, table_insert, total_insert, walked, table_walked, total_walked}
use Rattle.store.specs.Field.{pt, rc, X, Y, Z, NEXT, PREV, REC, OWNER, FIRST, REASON, TAKER, NONE}
use Rattle.store.specs.Words.{Store}
use Rattle.store.specs.Sound.{pts, recs, ring_at}
use Rattle.store.specs.Good.{total}
use Rattle.joins.specs.Paths.{Resolves, Lives}
use Rattle.joins.specs.Resolved.{Resolved}
use Rattle.joins.proofs.Resolving.{path_kept}
use Rattle.joins.proofs.Homes.{starts, emptied_kept, table, from}

-- like: the point that is copied
pub record Grown (s u : Store) (q like : ℕ) : Type 0 where
  pub links : Inserted (s (pt NEXT)) (s (pt PREV)) (u (pt NEXT)) (u (pt PREV)) (pts s) q
  pub points : pts u ≡ suc (pts s)
  pub records : recs u ≡ recs s
  pub first : (j : ℕ) → u (rc FIRST) j ≡ s (rc FIRST) j
  pub owner : (j : ℕ) → u (rc OWNER) j ≡ s (rc OWNER) j
  pub reasons : (j : ℕ) → u (rc REASON) j ≡ s (rc REASON) j
  pub takers : (j : ℕ) → u (rc TAKER) j ≡ s (rc TAKER) j
  pub named_new : u (pt REC) (pts s) ≡ s (pt REC) like
  pub named_else : (x : ℕ) → x ≢ pts s → u (pt REC) x ≡ s (pt REC) x
  pub x_new : u (pt X) (pts s) ≡ s (pt X) like
  pub x_else : (x : ℕ) → x ≢ pts s → u (pt X) x ≡ s (pt X) x
  pub y_new : u (pt Y) (pts s) ≡ s (pt Y) like
  pub z_new : u (pt Z) (pts s) ≡ s (pt Z) like
  pub y_else : (x : ℕ) → x ≢ pts s → u (pt Y) x ≡ s (pt Y) x
  pub z_else : (x : ℕ) → x ≢ pts s → u (pt Z) x ≡ s (pt Z) x

module _ (s u : Store) (o : Resolved s) (i q like : ℕ) (room : pts s < limit.POINTS) (a : Lives s i q) (b : Lives s i like) (c : Grown s u q like) where
  pub grown_res : (x t : ℕ) → Resolves s x t → Resolves u x t
  grown_res x t z =
      record {
        via = z.via;
        path = path_kept (s (rc FIRST)) (s (rc OWNER)) (u (rc FIRST)) (u (rc OWNER)) x z.via t
            (all_in (λ y. s (rc FIRST) y ≡ NONE → (u (rc FIRST) y ≡ NONE) × (u (rc OWNER) y ≡ s (rc OWNER) y)) z.via (λ y h e. (c.first y ∙ e, c.owner y))) z.path;
        low = rw c.records z.low;
        real = rw c.records z.real;
        some = λ e. z.some (sym (c.first t) ∙ e);
      }

  -- who lived on a ring still does
  pub grown_lives : (j k : ℕ) → Lives s j k → Lives u j k
  grown_lives j k z = record { bound = omega (arith, z.bound, c.points); res = rw (c.named_else k (λ e. omega (arith, z.bound))) (grown_res (s (pt REC) k) j z.res) }

  fresh : total s (pts s) ≡ 0
  fresh = go (dec_lt 0 (total s (pts s)))
    where
      go : Dec (0 < total s (pts s)) → total s (pts s) ≡ 0
      go (yes h) =
          let f = found (ring_at s) (recs s) (pts s) h in
          absurd (omega (arith, (o.whole f.at f.low).below (pts s) f.here))
      go (no h) = omega arith

  after : ℕ → List ℕ
  after = with (ring_at s) i (pts s ∷ q ∷ (from s o i q a).others)

  start : (j : ℕ) → j < recs s → Starts (u (rc FIRST) j) (after j)
  unfolding after
  start j h = rw (c.first j) (go (ℕ_discrete j i) (starts s j))
    where
      go : Dec (j ≡ i) → Starts (s (rc FIRST) j) (ring_at s j) → Starts (s (rc FIRST) j) (with (ring_at s) i (pts s ∷ q ∷ (from s o i q a).others) j)
      go (yes e) (nowhere z y) = absurd (a.res.some (ap (s (rc FIRST)) (sym e) ∙ z))
      go (yes e) (on_it d z) = rw (eq-eqb j i e) (on_it d (omega (arith, (from s o i q a).occs (s (rc FIRST) j), subst (λ (x : ℕ). 0 < occ (s (rc FIRST) j) (ring_at s x)) e z)))
      go (no d) z = rw (ne_eqb j i d) z

  grown : Table (u (pt NEXT)) (u (pt PREV)) (suc (pts s)) (recs s) after
  unfolding after
  grown = table_insert (s (pt NEXT)) (s (pt PREV)) (pts s) (recs s) (ring_at s) (table s o) (u (pt NEXT)) (u (pt PREV)) (suc (pts s)) (omega arith) (pts s) (omega arith) fresh q i c.links a.res.real
      (from s o i q a).others (from s o i q a).whole (from s o i q a).occs

  grown_total : (k : ℕ) → rings.total after (recs s) k ≡ total s k + one k (pts s)
  unfolding after
  grown_total k = total_insert (s (pt NEXT)) (s (pt PREV)) (pts s) (recs s) (ring_at s) (table s o) (u (pt NEXT)) (u (pt PREV)) (suc (pts s)) (omega arith) (pts s) (omega arith) fresh q i c.links a.res.real
      (from s o i q a).others (from s o i q a).whole (from s o i q a).occs k

  grown_occs : (j : ℕ) → j < recs s → (k : ℕ) → occ k (ring_at u j) ≡ occ k (with (ring_at s) i (pts s ∷ q ∷ (from s o i q a).others) j)
  unfolding after
  grown_occs j h k = (walked (u (pt NEXT)) (u (pt PREV)) (suc (pts s)) (omega arith) (u (rc FIRST) j) (after j) (grown.whole j h) (start j h)).occs k

  pub grown_resolved : Resolved u
  grown_resolved =
      record {
        few_points = omega (arith, c.points);
        few_records = rw c.records o.few_records;
        whole = λ j h. rw c.points (t.whole j (rw c.records at h));
        home = λ j k h y. homes j k (rw c.records at h) y;
        placed = λ k h. rw c.records (omega (arith, sums k, grown_total k, spots k (rw c.points at h) (ℕ_discrete k (pts s))));
        x_in = λ k h. xs k (rw c.points at h) (ℕ_discrete k (pts s));
        y_in = λ k h. ys k (rw c.points at h) (ℕ_discrete k (pts s));
        owner_in = λ j h. rw (c.owner j, c.records) (o.owner_in j (rw c.records at h));
        emptied = λ j h e. emptied_kept s u j (c.reasons j) (c.takers j) (omega (arith, c.records)) (o.emptied j (rw c.records at h) (rw (c.first j) at e));
      }
    where
      t : Table (u (pt NEXT)) (u (pt PREV)) (suc (pts s)) (recs s) (ring_at u)
      t = table_walked (u (pt NEXT)) (u (pt PREV)) (suc (pts s)) (omega arith) (u (rc FIRST)) (recs s) after grown start

      sums : (k : ℕ) → rings.total (ring_at u) (recs s) k ≡ rings.total after (recs s) k
      sums k = total_walked (u (pt NEXT)) (u (pt PREV)) (suc (pts s)) (omega arith) (u (rc FIRST)) (recs s) after grown start k

      spots : (k : ℕ) → k < suc (pts s) → Dec (k ≡ pts s) → 0 < total s k + one k (pts s)
      spots k h (yes e) = omega (arith, subst (λ (x : ℕ). one k x ≡ 1) e (one_here k))
      spots k h (no d) = omega (arith, o.placed k (omega arith))

      xs : (k : ℕ) → k < suc (pts s) → Dec (k ≡ pts s) → u (pt X) k ≤ 2 * limit.COORDINATE
      xs k h (yes e) = subst (λ (x : ℕ). u (pt X) x ≤ 2 * limit.COORDINATE) (sym e) (rw c.x_new (o.x_in like b.bound))
      xs k h (no d) = rw (c.x_else k d) (o.x_in k (omega arith))

      ys : (k : ℕ) → k < suc (pts s) → Dec (k ≡ pts s) → u (pt Y) k ≤ 2 * limit.COORDINATE
      ys k h (yes e) = subst (λ (x : ℕ). u (pt Y) x ≤ 2 * limit.COORDINATE) (sym e) (rw c.y_new (o.y_in like b.bound))
      ys k h (no d) = rw (c.y_else k d) (o.y_in k (omega arith))

      homes : (j k : ℕ) → j < recs s → 0 < occ k (ring_at u j) → Resolves u (u (pt REC) k) j
      homes j k h y = go (ℕ_discrete k (pts s)) (ℕ_discrete j i)
        where
          x : 0 < occ k (with (ring_at s) i (pts s ∷ q ∷ (from s o i q a).others) j)
          x = omega (arith, grown_occs j h k)

          old : k ≢ pts s → 0 < occ k (ring_at s j) → Resolves u (u (pt REC) k) j
          old d z = rw (c.named_else k d) (grown_res (s (pt REC) k) j (o.home j k h z))

          go : Dec (k ≡ pts s) → Dec (j ≡ i) → Resolves u (u (pt REC) k) j
          go (yes e) (yes f) = rw (e, c.named_new, f) (grown_res (s (pt REC) like) i b.res)
          go (yes e) (no f) =
              let z : 0 < occ k (ring_at s j) = rw (ne_eqb j i f) at x in
              absurd (omega (arith, (o.whole j h).below k z))
          go (no d) (yes f) =
              let z : 0 < occ k (pts s ∷ q ∷ (from s o i q a).others) = rw (eq-eqb j i f) at x in
              let g : 0 < occ k (ring_at s i) = omega (arith, one_else k (pts s) (λ e. d (sym e)), (from s o i q a).occs k) in
              old d (subst (λ (m : ℕ). 0 < occ k (ring_at s m)) (sym f) g)
          go (no d) (no f) = old d (rw (ne_eqb j i f) at x)
