-- The frame: what a step on record i may change. Every other record's ring and progress stay, and the store stays sound if record i and the new
-- records are.
use Prim.Native.Nat.{ℕ, zero, suc, ◌+◌, ◌≤◌, ◌<◌}
use mathlib.Core.Path.{◌≡◌, refl, ap, ◌∙◌, sym, subst}
use mathlib.Core.Logic.{◌≢◌, ◌⊎◌, inl, inr}
use mathlib.Core.Bool.{Bool, true, false, cond}
use mathlib.Core.List.{[]}
use mathlib.Core.Option.{none}
use native.Mathlib.Omega.{arith}
use native.Mathlib.Decide.{ℕ_discrete, dec_lt}
use Rattle.rings.specs.Count.{sum_to, occ}
use Rattle.rings.specs.Progress.{Due, validity, removal, triangle, split, done, is_done, resting, gone}
use Rattle.rings.specs.Walk.{walk}
use Rattle.rings.proofs.Counting.{all_in, sum_same, sum_two, sum_change}
use Rattle.rings.proofs.Linking.{linked_kept}
use Rattle.rings.proofs.Walking.{run_agree, Seen}
use Rattle.job.specs.Limits as limit
use Rattle.store.specs.Field.{RecordCol, pt, rc, X, Y, Z, NEXT, PREV, REC, FLAGS, OWNER, FIRST, MARK, PRESENT, START, REASON, TAKER, NONE}
use Rattle.store.specs.Words.{Store}
use Rattle.store.specs.Sound.{pts, recs, ringless, ring_at, is_open, due_at, Closed, looping, lone_due, lone_at}
use Rattle.store.specs.Reason.{discard_of}
use Rattle.store.specs.Good.{PointIn, Explained, Good, total, Sound}
use Rattle.store.proofs.Soundness.{present_on}

-- record i (or a new one, i ≥ recs s) is changed, and no point that another record's ring has
pub record Kept (s s' : Store) (i : ℕ) : Type 0 where
  pub points_up : pts s ≤ pts s'
  pub records_up : recs s ≤ recs s'
  pub records : (f : RecordCol) (j : ℕ) → j < recs s → j ≢ i → s' (rc f) j ≡ s (rc f) j
  pub xs : (k : ℕ) → k < pts s → s' (pt X) k ≡ s (pt X) k
  pub ys : (k : ℕ) → k < pts s → s' (pt Y) k ≡ s (pt Y) k
  pub zs : (k : ℕ) → k < pts s → s' (pt Z) k ≡ s (pt Z) k
  pub nexts : (j k : ℕ) → j < recs s → j ≢ i → 0 < occ k (ring_at s j) → s' (pt NEXT) k ≡ s (pt NEXT) k
  pub prevs : (j k : ℕ) → j < recs s → j ≢ i → 0 < occ k (ring_at s j) → s' (pt PREV) k ≡ s (pt PREV) k
  pub recordings : (j k : ℕ) → j < recs s → j ≢ i → 0 < occ k (ring_at s j) → s' (pt REC) k ≡ s (pt REC) k

-- what an act shows of it: only points of record i's own ring, and fresh ones, are linked anew
pub record Local (s s' : Store) (i : ℕ) : Type 0 where
  pub points_up : pts s ≤ pts s'
  pub records_up : recs s ≤ recs s'
  pub records : (f : RecordCol) (j : ℕ) → j < recs s → j ≢ i → s' (rc f) j ≡ s (rc f) j
  pub xs : (k : ℕ) → k < pts s → s' (pt X) k ≡ s (pt X) k
  pub ys : (k : ℕ) → k < pts s → s' (pt Y) k ≡ s (pt Y) k
  pub zs : (k : ℕ) → k < pts s → s' (pt Z) k ≡ s (pt Z) k
  pub nexts : (k : ℕ) → k < pts s → occ k (ring_at s i) ≡ 0 → s' (pt NEXT) k ≡ s (pt NEXT) k
  pub prevs : (k : ℕ) → k < pts s → occ k (ring_at s i) ≡ 0 → s' (pt PREV) k ≡ s (pt PREV) k
  pub recordings : (k : ℕ) → k < pts s → occ k (ring_at s i) ≡ 0 → s' (pt REC) k ≡ s (pt REC) k

-- why a record has no ring
pub explained_kept : (s s' : Store) (j : ℕ) → s' (rc REASON) j ≡ s (rc REASON) j → s' (rc TAKER) j ≡ s (rc TAKER) j → recs s ≤ recs s' → Explained s j → Explained s' j
explained_kept s s' j a b m t = record { kept = rw a t.kept; taker = λ e. rw b (omega (arith, t.taker (rw a at e))) }

module _ (s s' : Store) (o : Sound s) (i : ℕ) (h : i < recs s) where
  apart : (j k : ℕ) → j < recs s → j ≢ i → 0 < occ k (ring_at s j) → occ k (ring_at s i) ≡ 0
  apart j k l d p = omega (arith, o.once k, sum_two (recs s) i j (λ (n : ℕ). occ k (ring_at s n)) h l (λ e. d (sym e)))

  pub local_kept : Local s s' i → Kept s s' i
  local_kept L =
      record {
        points_up = L.points_up;
        records_up = L.records_up;
        records = L.records;
        xs = L.xs;
        ys = L.ys;
        zs = L.zs;
        nexts = λ j k l d p. L.nexts k ((o.good j l).points_in_lem k p).below (apart j k l d p);
        prevs = λ j k l d p. L.prevs k ((o.good j l).points_in_lem k p).below (apart j k l d p);
        recordings = λ j k l d p. L.recordings k ((o.good j l).points_in_lem k p).below (apart j k l d p);
      }

module _ (s s' : Store) (o : Sound s) (i : ℕ) (K : Kept s s' i) where
  module _ (j : ℕ) (l : j < recs s) (d : j ≢ i) where
    first_same : s' (rc FIRST) j ≡ s (rc FIRST) j
    first_same = K.records FIRST j l d

    below : (k : ℕ) → 0 < occ k (ring_at s j) → k < pts s
    below k p = ((o.good j l).points_in_lem k p).below

    next_same : (k : ℕ) → 0 < occ k (ring_at s j) → s' (pt NEXT) k ≡ s (pt NEXT) k
    next_same k p = K.nexts j k l d p

    -- a walk from one of its points
    walk_same : (a : ℕ) → ((k : ℕ) → 0 < occ k (walk (s (pt NEXT)) a) → 0 < occ k (ring_at s j)) → walk (s' (pt NEXT)) a ≡ walk (s (pt NEXT)) a
    walk_same a t = run_agree (s (pt NEXT)) (s' (pt NEXT)) a limit.POINTS a (λ k p. next_same k (t k p))

    pub ring_other : ring_at s' j ≡ ring_at s j
    ring_other = rw first_same (go (ringless s j) refl)
      where
        go : (b : Bool) → ringless s j ≡ b → cond b [] (walk (s' (pt NEXT)) (s (rc FIRST) j)) ≡ cond b [] (walk (s (pt NEXT)) (s (rc FIRST) j))
        go true e = refl
        go false e = walk_same (s (rc FIRST) j) (λ k p. rw e p)

    closed_back : Closed s' j → Closed s j
    closed_back c = record { known = l; ringed = rw first_same at c.ringed; closed = rw (K.records FLAGS j l d) at c.closed }

    pub good_other : Good s' j
    good_other =
        let g : Good s j = o.good j l in
        record {
          linked = rw ring_other (linked_kept (s (pt NEXT)) (s (pt PREV)) (s' (pt NEXT)) (s' (pt PREV)) (ring_at s j) g.linked
              (all_in (λ k. s' (pt NEXT) k ≡ s (pt NEXT) k) (ring_at s j) next_same)
              (all_in (λ k. s' (pt PREV) k ≡ s (pt PREV) k) (ring_at s j) (λ k p. K.prevs j k l d p)));
          points_in_lem = λ k p.
              let q : 0 < occ k (ring_at s j) = rw ring_other at p in
              let t : PointIn s k = g.points_in_lem k q in
              record {
                below = omega (arith, t.below, K.points_up);
                x_in = rw (K.xs k t.below) t.x_in;
                y_in = rw (K.ys k t.below) t.y_in;
                record_in = rw (K.recordings j k l d q) (omega (arith, t.record_in, K.records_up));
              };
          owner = rw (K.records OWNER j l d) (up g.owner);
          meant = λ c. rw (K.records MARK j l d) (g.meant (closed_back c));
          going = λ c e. rw (K.records PRESENT j l d, ring_other) (g.going (closed_back c) (rw (K.records MARK j l d) at e));
          explained = λ e. explained_kept s s' j (K.records REASON j l d) (K.records TAKER j l d) K.records_up (g.explained (rw first_same at e));
        }
      where
        up : (s (rc OWNER) j ≡ NONE) ⊎ (s (rc OWNER) j < recs s) → (s (rc OWNER) j ≡ NONE) ⊎ (s (rc OWNER) j < recs s')
        up (inl e) = inl e
        up (inr e) = inr (omega (arith, K.records_up))

    looping_other : (due : Due) → is_done due ≡ false → due_at s j ≡ due → Closed s j → looping s' j due ≡ looping s j due
    looping_other due e m c =
        let t : Seen (s (pt NEXT)) (s (pt PREV)) (pts s) (ring_at s j) (s (rc PRESENT) j) = present_on s o j c (rw m e) in
        let q : walk (s' (pt NEXT)) (s (rc PRESENT) j) ≡ walk (s (pt NEXT)) (s (rc PRESENT) j) = walk_same (s (rc PRESENT) j) (λ k p. rw (sym (t.occs k)) (rw t.walked at p)) in
        rw (K.records PRESENT j l d, K.records START j l d, first_same, q)

    -- its lone ring stays
    pub lone_other : is_open s j ≡ false → lone_at s' j ≡ lone_at s j
    lone_other shut = rw (first_same, K.records MARK j l d, K.records REASON j l d) (go (ringless s j) refl)
      where
        last : ringless s j ≡ false → walk (s' (pt NEXT)) (s (rc FIRST) j) ≡ walk (s (pt NEXT)) (s (rc FIRST) j)
        last e = walk_same (s (rc FIRST) j) (λ k p. rw e p)

        by : ringless s j ≡ false → (due : Due) → due_at s j ≡ due → lone_due s' j due ≡ lone_due s j due
        by e validity m = rw first_same (ap (resting validity none) (last e))
        by e removal m = looping_other removal refl m (record { known = l; ringed = e; closed = shut })
        by e triangle m = rw first_same (ap (resting triangle none) (last e))
        by e split m = looping_other split refl m (record { known = l; ringed = e; closed = shut })
        by e done m = rw first_same (ap (resting done none) (last e))

        go : (b : Bool) → ringless s j ≡ b → cond b (gone (discard_of (s (rc REASON) j))) (lone_due s' j (due_at s j)) ≡ cond b (gone (discard_of (s (rc REASON) j))) (lone_due s j (due_at s j))
        go true e = refl
        go false e = by e (due_at s j) refl

  -- ---- the whole store

  none_past : (k : ℕ) → pts s ≤ k → (n : ℕ) → n ≤ recs s → sum_to n (λ j. occ k (ring_at s j)) ≡ 0
  none_past k p zero m = refl
  none_past k p (suc n) m = omega (arith, none_past k p n (omega arith), zero_at (dec_lt 0 (occ k (ring_at s n))))
    where
      zero_at : Dec (0 < occ k (ring_at s n)) → occ k (ring_at s n) ≡ 0
      zero_at (yes q) = absurd (omega (arith, ((o.good n (omega arith)).points_in_lem k q).below))
      zero_at (no q) = omega arith

  pub past : (k : ℕ) → pts s ≤ k → total s k ≡ 0
  past k p = none_past k p (recs s) (omega arith)

  old_total : i < recs s → (k : ℕ) → sum_to (recs s) (λ j. occ k (ring_at s' j)) + occ k (ring_at s i) ≡ total s k + occ k (ring_at s' i)
  old_total h k = sum_change (recs s) i (λ j. occ k (ring_at s j)) (λ j. occ k (ring_at s' j)) h (λ j l d. ap (occ k) (ring_other j l d))

  -- no new record: what record i's ring has was on it, or is fresh
  pub once_same : i < recs s → recs s' ≡ recs s → ((k : ℕ) → k < pts s → occ k (ring_at s' i) ≤ occ k (ring_at s i)) → ((k : ℕ) → pts s ≤ k → occ k (ring_at s' i) ≤ 1) → (k : ℕ) → total s' k ≤ 1
  once_same h e a b k = rw e (go (dec_lt k (pts s)))
    where
      go : Dec (k < pts s) → sum_to (recs s) (λ j. occ k (ring_at s' j)) ≤ 1
      go (yes l) = omega (arith, old_total h k, o.once k, a k l)
      go (no l) = omega (arith, old_total h k, past k (omega arith), b k (omega arith))

  -- i is a new record, whose ring has fresh points and points of no ring
  pub once_new : i ≡ recs s → recs s' ≡ suc (recs s) → ((k : ℕ) → occ k (ring_at s' i) ≤ 1) → ((k : ℕ) → 0 < occ k (ring_at s' i) → total s k ≡ 0) → (k : ℕ) → total s' k ≤ 1
  once_new n e a b k = rw e (go (dec_lt 0 (occ k (ring_at s' i))))
    where
      old : sum_to (recs s) (λ j. occ k (ring_at s' j)) ≡ total s k
      old = sum_same (recs s) (λ j. occ k (ring_at s j)) (λ j. occ k (ring_at s' j)) (λ j l. ap (occ k) (ring_other j l (λ z. omega arith)))

      new : occ k (ring_at s' (recs s)) ≡ occ k (ring_at s' i)
      new = ap (λ (j : ℕ). occ k (ring_at s' j)) (sym n)

      go : Dec (0 < occ k (ring_at s' i)) → sum_to (suc (recs s)) (λ j. occ k (ring_at s' j)) ≤ 1
      go (yes p) = omega (arith, old, new, a k, b k p)
      go (no p) = omega (arith, old, new, o.once k)

  pub sound_after : pts s' ≤ limit.POINTS → recs s' ≤ limit.RECORDS → Good s' i → ((j : ℕ) → recs s ≤ j → j < recs s' → Good s' j) → ((k : ℕ) → total s' k ≤ 1) → Sound s'
  sound_after fp fr g new t = record { few_points = fp; few_records = fr; good = each; once = t }
    where
      each : (j : ℕ) → j < recs s' → Good s' j
      each j l = go (ℕ_discrete j i) (dec_lt j (recs s))
        where
          go : Dec (j ≡ i) → Dec (j < recs s) → Good s' j
          go (yes e) m = subst (Good s') (sym e) g
          go (no d) (yes m) = good_other j m d
          go (no d) (no m) = new j (omega arith) l

  -- the points that are on a ring no more
  pub total_left : i < recs s → (k : ℕ) → recs s' ≡ recs s → total s' k + occ k (ring_at s i) ≡ total s k + occ k (ring_at s' i)
  total_left h k e = rw e (old_total h k)

-- a step on record i, and then a new record
pub kept_new : (s s₁ s₂ : Store) → Sound s → (i : ℕ) → i < recs s → Kept s s₁ i → recs s₁ ≡ recs s → Kept s₁ s₂ (recs s₁) → Kept s s₂ i
kept_new s s₁ s₂ o i h K e N =
    record {
      points_up = omega (arith, K.points_up, N.points_up);
      records_up = omega (arith, K.records_up, N.records_up);
      records = λ f j l d. N.records f j (omega arith) (λ z. omega arith) ∙ K.records f j l d;
      xs = λ k l. N.xs k (omega (arith, K.points_up)) ∙ K.xs k l;
      ys = λ k l. N.ys k (omega (arith, K.points_up)) ∙ K.ys k l;
      zs = λ k l. N.zs k (omega (arith, K.points_up)) ∙ K.zs k l;
      nexts = λ j k l d p. N.nexts j k (omega arith) (λ z. omega arith) (rw (ring_other s s₁ o i K j l d) p) ∙ K.nexts j k l d p;
      prevs = λ j k l d p. N.prevs j k (omega arith) (λ z. omega arith) (rw (ring_other s s₁ o i K j l d) p) ∙ K.prevs j k l d p;
      recordings = λ j k l d p. N.recordings j k (omega arith) (λ z. omega arith) (rw (ring_other s s₁ o i K j l d) p) ∙ K.recordings j k l d p;
    }
