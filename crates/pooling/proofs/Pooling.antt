-- Of two sound stores that fit together the pooled one is sound; its rings are the first's, and the second's raised, by value the same.
use Prim.Native.Nat.{ℕ, ◌+◌, ◌-◌, ◌%◌, ◌≤◌, ◌<◌}
use mathlib.Core.Path.{◌≡◌, refl, ap, ◌∙◌, sym, subst}
use mathlib.Core.Logic.{◌⊎◌, inl, inr}
use mathlib.Core.Bool.{Bool, true, false, cond}
use mathlib.Core.List.{List, [], ◌∷◌, map}
use native.Mathlib.Omega.{arith}
use native.Mathlib.Decide.{dec_lt}
use lib.Dec.{eqb}
use borrow.Author.Tests.{ne_eqb, eqb-true}
use Rattle.job.specs.Limits as limit
use Rattle.rings.specs.Count.{sum_to, occ}
use Rattle.rings.specs.Walk.{walk}
use Rattle.rings.proofs.Counting.{sum_same, one_here}
use Rattle.store.specs.Field.{PointCol, RecordCol, pt, rc, X, Y, Z, NEXT, PREV, REC, FLAGS, OWNER, FIRST, MARK, PRESENT, REASON, TAKER}
use Rattle.job.specs.Limits.{NONE}
use Rattle.store.specs.Words.{Store}
use Rattle.store.specs.Sound.{pts, recs, ringless, ring_at, is_open, Closed}
use Rattle.store.specs.Good.{PointIn, Good, total, Sound, Explained}
use Rattle.store.specs.Reason.{is_kept}
use Rattle.store.proofs.Soundness.{whole, first_on, from_first}
use Rattle.store.proofs.Keeping.{Kept, ring_other, good_other, past}
use Rattle.rings.proofs.Members.{next_on, prev_on}
use Rattle.pooling.specs.Pooled.{plain, point_kind, record_kind, raise, used_in, raise_as, pooled}
use Rattle.pooling.proofs.Raising.{raise_low, raise_high, before, after, sum_split, sum_none, up, occ_up, occ_low, run_up, linked_up, map_up}

-- there is room for both
pub record BothFit (s t : Store) : Type 0 where
  pub fit_points : pts s + pts t ≤ limit.POINTS
  pub fit_records : recs s + recs t ≤ limit.RECORDS

module _ (s t : Store) where
  abbrev pub u : Store
  u = pooled s t

  -- ---- the first's part is as it was

  pub point_before : (f : PointCol) (k : ℕ) → k < pts s → u (pt f) k ≡ s (pt f) k
  point_before f k h = before (pts s) (pts t) (s (pt f)) (λ j. raise_as (point_kind f) (used_in s) (used_in t) (t (pt f) j)) k h

  pub record_before : (f : RecordCol) (i : ℕ) → i < recs s → u (rc f) i ≡ s (rc f) i
  record_before f i h = before (recs s) (recs t) (s (rc f)) (λ j. raise_as (record_kind f) (used_in s) (used_in t) (t (rc f) j)) i h

  pub point_after : (f : PointCol) (k : ℕ) → k < pts t → u (pt f) (pts s + k) ≡ raise_as (point_kind f) (used_in s) (used_in t) (t (pt f) k)
  point_after f k h = after (pts s) (pts t) (s (pt f)) (λ j. raise_as (point_kind f) (used_in s) (used_in t) (t (pt f) j)) k h

  pub record_after : (f : RecordCol) (i : ℕ) → i < recs t → u (rc f) (recs s + i) ≡ raise_as (record_kind f) (used_in s) (used_in t) (t (rc f) i)
  record_after f i h = after (recs s) (recs t) (s (rc f)) (λ j. raise_as (record_kind f) (used_in s) (used_in t) (t (rc f) j)) i h

  -- a column that names nothing
  pub plain_point : (f : PointCol) (k : ℕ) → point_kind f ≡ plain → k < pts t → u (pt f) (pts s + k) ≡ t (pt f) k
  plain_point f k e h = point_after f k h ∙ rw e (raise_high 0 0 (t (pt f) k) (omega arith))

  pub plain_record : (f : RecordCol) (i : ℕ) → record_kind f ≡ plain → i < recs t → u (rc f) (recs s + i) ≡ t (rc f) i
  plain_record f i e h = record_after f i h ∙ rw e (raise_high 0 0 (t (rc f) i) (omega arith))

module _ (s t : Store) (a : Sound s) where
  pub kept : Kept s (pooled s t) (recs s)
  kept =
      record {
        points_up = omega arith;
        records_up = omega arith;
        records = λ f j l d. record_before s t f j l;
        xs = λ k l. point_before s t X k l;
        ys = λ k l. point_before s t Y k l;
        zs = λ k l. point_before s t Z k l;
        nexts = λ j k l d p. point_before s t NEXT k ((a.good j l).points_in_lem k p).below;
        prevs = λ j k l d p. point_before s t PREV k ((a.good j l).points_in_lem k p).below;
        recordings = λ j k l d p. point_before s t REC k ((a.good j l).points_in_lem k p).below;
      }

  pub first_rings : (j : ℕ) → j < recs s → ring_at (pooled s t) j ≡ ring_at s j
  first_rings j l = ring_other s (pooled s t) a (recs s) kept j l (λ e. omega arith)

-- ---- the second's part is raised

module _ (s t : Store) (b : Sound t) (fit : BothFit s t) where
  abbrev q : ℕ
  q = pts s

  -- none stays none
  none_up : (m n v : ℕ) → n ≤ limit.POINTS → m + n ≤ limit.POINTS → (v ≡ NONE) ⊎ (v < n) → eqb (raise m n v) NONE ≡ eqb v NONE
  none_up m n v l f (inl e) = ap (λ (x : ℕ). eqb x NONE) (raise_high m n v (omega arith))
  none_up m n v l f (inr h) = rw (raise_low m n v h) (ne_eqb (m + v) NONE (λ z. omega arith) ∙ sym (ne_eqb v NONE (λ z. omega arith)))

  module _ (j : ℕ) (l : j < recs t) where
    pub first_named : (t (rc FIRST) j ≡ NONE) ⊎ (t (rc FIRST) j < pts t)
    first_named = go (ringless t j) refl
      where
        go : (c : Bool) → ringless t j ≡ c → (t (rc FIRST) j ≡ NONE) ⊎ (t (rc FIRST) j < pts t)
        go true e = inl (eqb-true (t (rc FIRST) j) NONE e)
        go false e = inr ((b.good j l).points_in_lem (t (rc FIRST) j) (first_on t j e)).below

    pub ringless_up : ringless (pooled s t) (recs s + j) ≡ ringless t j
    ringless_up = ap (λ (x : ℕ). eqb x NONE) (record_after s t FIRST j l) ∙ none_up (pts s) (pts t) (t (rc FIRST) j) b.few_points fit.fit_points first_named

    pub open_up : is_open (pooled s t) (recs s + j) ≡ is_open t j
    open_up = ap (λ (x : ℕ). eqb (x % 2) 1) (plain_record s t FLAGS j refl l)

    pub mark_up : pooled s t (rc MARK) (recs s + j) ≡ t (rc MARK) j
    mark_up = plain_record s t MARK j refl l

    reason_up : pooled s t (rc REASON) (recs s + j) ≡ t (rc REASON) j
    reason_up = plain_record s t REASON j refl l

    pub on_low : (k : ℕ) → 0 < occ k (ring_at t j) → k < pts t
    on_low k o = ((b.good j l).points_in_lem k o).below

    next_up : (k : ℕ) → 0 < occ k (ring_at t j) → pooled s t (pt NEXT) (q + k) ≡ q + t (pt NEXT) k
    next_up k o = point_after s t NEXT k (on_low k o) ∙ raise_low q (pts t) (t (pt NEXT) k) (on_low (t (pt NEXT) k) (next_on (t (pt NEXT)) (t (pt PREV)) (pts t) (ring_at t j) (whole t b j l) k o))

    prev_up : (k : ℕ) → 0 < occ k (ring_at t j) → pooled s t (pt PREV) (q + k) ≡ q + t (pt PREV) k
    prev_up k o = point_after s t PREV k (on_low k o) ∙ raise_low q (pts t) (t (pt PREV) k) (on_low (t (pt PREV) k) (prev_on (t (pt NEXT)) (t (pt PREV)) (pts t) (ring_at t j) (whole t b j l) k o))

    -- a word that names a point of the ring is raised
    pub named_up : (v : ℕ) → 0 < occ v (ring_at t j) → raise q (pts t) v ≡ q + v
    named_up v o = raise_low q (pts t) v (on_low v o)

    pub second_rings : ring_at (pooled s t) (recs s + j) ≡ map (up q) (ring_at t j)
    second_rings = ap (λ (c : Bool). cond c [] (walk (pooled s t (pt NEXT)) (pooled s t (rc FIRST) (recs s + j)))) ringless_up ∙ go (ringless t j) refl
      where
        go : (c : Bool) → ringless t j ≡ c → cond c [] (walk (pooled s t (pt NEXT)) (pooled s t (rc FIRST) (recs s + j))) ≡ map (up q) (cond c [] (walk (t (pt NEXT)) (t (rc FIRST) j)))
        go true e = refl
        go false e =
            ap (walk (pooled s t (pt NEXT))) (record_after s t FIRST j l ∙ named_up (t (rc FIRST) j) (first_on t j e))
            ∙ run_up q (t (pt NEXT)) (pooled s t (pt NEXT)) (t (rc FIRST) j) limit.POINTS (t (rc FIRST) j) (λ k o. next_up k (subst (λ (r : List ℕ). 0 < occ k r) (sym (from_first t j e)) o))

    closed_down : Closed (pooled s t) (recs s + j) → Closed t j
    closed_down c = record { known = l; ringed = sym ringless_up ∙ c.ringed; closed = sym open_up ∙ c.closed }

    point_up : (k : ℕ) → PointIn t k → PointIn (pooled s t) (q + k)
    point_up k i =
        record {
          below = omega (arith, i.below);
          x_in = rw (plain_point s t X k refl i.below) i.x_in;
          y_in = rw (plain_point s t Y k refl i.below) i.y_in;
          record_in = rw (point_after s t REC k i.below ∙ raise_low (recs s) (recs t) (t (pt REC) k) i.record_in) (omega (arith, i.record_in));
        }

    points_up : (k : ℕ) → 0 < occ k (map (up q) (ring_at t j)) → PointIn (pooled s t) k
    points_up k o = go (dec_lt k q)
      where
        go : Dec (k < q) → PointIn (pooled s t) k
        go (yes h) = absurd (omega (arith, occ_low q k (ring_at t j) h))
        go (no h) =
            let e : k ≡ q + (k - q) = omega arith in
            let p : occ k (map (up q) (ring_at t j)) ≡ occ (k - q) (ring_at t j) = ap (λ (n : ℕ). occ n (map (up q) (ring_at t j))) e ∙ occ_up q (k - q) (ring_at t j) in
            subst (PointIn (pooled s t)) (sym e) (point_up (k - q) ((b.good j l).points_in_lem (k - q) (omega arith)))

    owner_up : (t (rc OWNER) j ≡ NONE) ⊎ (t (rc OWNER) j < recs t) → (raise (recs s) (recs t) (t (rc OWNER) j) ≡ NONE) ⊎ (raise (recs s) (recs t) (t (rc OWNER) j) < recs s + recs t)
    owner_up (inl e) = inl (raise_high (recs s) (recs t) (t (rc OWNER) j) (omega (arith, b.few_records)) ∙ e)
    owner_up (inr h) = inr (omega (arith, raise_low (recs s) (recs t) (t (rc OWNER) j) h))

    second_good : Good (pooled s t) (recs s + j)
    second_good =
        let g : Good t j = b.good j l in
        record {
          linked = rw second_rings (linked_up q (t (pt NEXT)) (t (pt PREV)) (pooled s t (pt NEXT)) (pooled s t (pt PREV)) (ring_at t j) g.linked next_up prev_up);
          points_in_lem = λ k o. points_up k (rw second_rings at o);
          owner = rw (record_after s t OWNER j l) (owner_up g.owner);
          meant = λ c. rw mark_up (g.meant (closed_down c));
          going = λ c d.
              let h : 0 < occ (t (rc PRESENT) j) (ring_at t j) = g.going (closed_down c) (rw mark_up at d) in
              rw (record_after s t PRESENT j l ∙ named_up (t (rc PRESENT) j) h, second_rings, occ_up q (t (rc PRESENT) j) (ring_at t j)) h;
          explained = λ e.
              let x : Explained t j = g.explained (sym ringless_up ∙ e) in
              record {
                kept = ap is_kept reason_up ∙ x.kept;
                taker = λ d.
                    let h : t (rc TAKER) j < recs t = x.taker (sym reason_up ∙ d) in
                    omega (arith, record_after s t TAKER j l, raise_low (recs s) (recs t) (t (rc TAKER) j) h);
              };
        }

-- ---- by value the same; `of`: what a point is, by its three words

map_same : {A : Type 0} (f g : ℕ → A) (l : List ℕ) → ((k : ℕ) → 0 < occ k l → f k ≡ g k) → map f l ≡ map g l
map_same f g [] h = refl
map_same f g (x ∷ l) h = cc (h x (omega (arith, one_here x)), map_same f g l (λ k o. h k (omega arith)))

module _ {P : Type 0} (of : ℕ → ℕ → ℕ → P) (s t : Store) where
  abbrev value : Store → ℕ → P
  value r k = of (r (pt X) k) (r (pt Y) k) (r (pt Z) k)

  pub first_values : Sound s → (j : ℕ) → j < recs s → map (value (pooled s t)) (ring_at (pooled s t) j) ≡ map (value s) (ring_at s j)
  first_values a j l =
      ap (map (value (pooled s t))) (first_rings s t a j l)
      ∙ map_same (value (pooled s t)) (value s) (ring_at s j) (λ k o. let h : k < pts s = ((a.good j l).points_in_lem k o).below in cc (point_before s t X k h, point_before s t Y k h, point_before s t Z k h))

  pub second_values : Sound t → BothFit s t → (j : ℕ) → j < recs t → map (value (pooled s t)) (ring_at (pooled s t) (recs s + j)) ≡ map (value t) (ring_at t j)
  second_values b fit j l =
      ap (map (value (pooled s t))) (second_rings s t b fit j l)
      ∙ map_up (pts s) (value (pooled s t)) (value t) (ring_at t j) (λ k o. let h : k < pts t = on_low s t b fit j l k o in cc (plain_point s t X k refl h, plain_point s t Y k refl h, plain_point s t Z k refl h))

-- ---- together

module _ (s t : Store) (a : Sound s) (b : Sound t) (fit : BothFit s t) where
  good_both : (i : ℕ) → i < recs s + recs t → Good (pooled s t) i
  good_both i h = go (dec_lt i (recs s))
    where
      go : Dec (i < recs s) → Good (pooled s t) i
      go (yes l) = good_other s (pooled s t) a (recs s) (kept s t a) i l (λ e. omega arith)
      go (no l) = let e : i ≡ recs s + (i - recs s) = omega arith in subst (Good (pooled s t)) (sym e) (second_good s t b fit (i - recs s) (omega arith))

  total_both : (k : ℕ) → total (pooled s t) k ≡ total s k + sum_to (recs t) (λ j. occ k (map (up (pts s)) (ring_at t j)))
  total_both k =
      sum_split (recs s) (recs t) (λ i. occ k (ring_at (pooled s t) i))
      ∙ ap (λ (n : ℕ). n + sum_to (recs t) (λ j. occ k (ring_at (pooled s t) (recs s + j)))) (sum_same (recs s) (λ j. occ k (ring_at s j)) (λ i. occ k (ring_at (pooled s t) i)) (λ j l. ap (occ k) (first_rings s t a j l)))
      ∙ ap (λ (n : ℕ). total s k + n) (sum_same (recs t) (λ j. occ k (map (up (pts s)) (ring_at t j))) (λ j. occ k (ring_at (pooled s t) (recs s + j))) (λ j l. ap (occ k) (second_rings s t b fit j l)))

  once_both : (k : ℕ) → total (pooled s t) k ≤ 1
  once_both k = rw (total_both k) (go (dec_lt k (pts s)))
    where
      go : Dec (k < pts s) → total s k + sum_to (recs t) (λ j. occ k (map (up (pts s)) (ring_at t j))) ≤ 1
      go (yes h) = omega (arith, a.once k, sum_none (recs t) (λ j. occ k (map (up (pts s)) (ring_at t j))) (λ j l. occ_low (pts s) k (ring_at t j) h))
      go (no h) =
          let e : k ≡ pts s + (k - pts s) = omega arith in
          omega (
            arith,
            past s (pooled s t) a (recs s) (kept s t a) k (omega arith),
            b.once (k - pts s),
            sum_same (recs t) (λ j. occ (k - pts s) (ring_at t j)) (λ j. occ k (map (up (pts s)) (ring_at t j))) (λ j l. ap (λ (n : ℕ). occ n (map (up (pts s)) (ring_at t j))) e ∙ occ_up (pts s) (k - pts s) (ring_at t j)),
          )

  -- two sound stores that fit pool to a sound one
  pub pooled_sound : Sound (pooled s t)
  pooled_sound = record { few_points = fit.fit_points; few_records = fit.fit_records; good = good_both; once = once_both }
