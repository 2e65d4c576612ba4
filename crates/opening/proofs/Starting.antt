-- Rings at their start: what the words are after it, and that a store that was joined is then sound, and fresh for the steps.
use Prim.Native.Nat.{ℕ, zero, suc, ◌+◌, ◌%◌, ◌≤◌, ◌<◌}
use mathlib.Core.Path.{◌≡◌, refl, ap, ◌∙◌, sym, subst}
use mathlib.Core.Bool.{cond}
use mathlib.Core.List.{List}
use native.Mathlib.Numerals.{add-one}
use native.Mathlib.Omega.{arith}
use native.Mathlib.Decide.{ℕ_discrete}
use lib.Dec.{eqb}
use lib.ListN.{length}
use Rattle.job.specs.Limits as limit
use Rattle.rings.specs.Count.{occ}
use Rattle.rings.proofs.Counting.{sum_same}
use Rattle.store.specs.Field.{PointCol, Count, pt, rc, ct, X, Y, NEXT, PREV, REC, FLAGS, OWNER, FIRST, MARK, PRESENT, START, CUT, REASON, TAKER, POINTS, RECORDS, NONE, BLOCK}
use Rattle.store.specs.Words.{Store, view}
use Rattle.store.specs.Stores.{on_store}
use Rattle.store.specs.Named.{first_of, records_of}
use Rattle.store.specs.Sound.{pts, recs, ringless, ring_at, is_open}
use Rattle.store.specs.Good.{total, Sound}
use Rattle.store.specs.Boxes.{sides_at, sides_of, ring_box}
use Rattle.bounds.proofs.Beside.{view_all, length_all, all_here}
use Rattle.store.proofs.Storing.{length_writes, view_writes, hit, miss}
use Rattle.store.proofs.Soundness.{first_on}
use Rattle.joins.specs.Paths.{Resolves}
use Rattle.joins.specs.Resolved.{Resolved, Ready}
use Rattle.joins.proofs.Homes.{emptied_kept}
use Rattle.joins.proofs.Sounding.{resolved_sound}
use Rattle.acts.specs.Opened.{Fresh}
use Rattle.opening.specs.Start.{start_writes, start_ring, start_to, start_rings}

-- the records below i are at their start, and nothing else has changed
pub record Begun (s s' : Store) (i : ℕ) : Type 0 where
  pub points : (f : PointCol) → s' (pt f) ≡ s (pt f)
  pub counts : (f : Count) → s' (ct f) ≡ s (ct f)
  pub flags : s' (rc FLAGS) ≡ s (rc FLAGS)
  pub owners : s' (rc OWNER) ≡ s (rc OWNER)
  pub firsts : s' (rc FIRST) ≡ s (rc FIRST)
  pub reasons : s' (rc REASON) ≡ s (rc REASON)
  pub takers : s' (rc TAKER) ≡ s (rc TAKER)
  pub marks : (k : ℕ) → k < i → s' (rc MARK) k ≡ 0
  pub presents : (k : ℕ) → k < i → s' (rc PRESENT) k ≡ s (rc FIRST) k
  pub starts : (k : ℕ) → k < i → s' (rc START) k ≡ s (rc FIRST) k
  pub cuts : (k : ℕ) → k < i → s' (rc CUT) k ≡ NONE

none : (s : Store) → Begun s s 0
none s =
    record {
      points = λ f. refl;
      counts = λ f. refl;
      flags = refl;
      owners = refl;
      firsts = refl;
      reasons = refl;
      takers = refl;
      marks = λ k h. absurd (omega arith);
      presents = λ k h. absurd (omega arith);
      starts = λ k h. absurd (omega arith);
      cuts = λ k h. absurd (omega arith);
    }

-- a column with v at i: what is below i + 1
pub more : (i v : ℕ) (c d : ℕ → ℕ) → ((k : ℕ) → k < i → c k ≡ d k) → d i ≡ v → (k : ℕ) → k < suc i → cond (eqb k i) v (c k) ≡ d k
more i v c d h e k l = go (ℕ_discrete k i)
  where
    go : Dec (k ≡ i) → cond (eqb k i) v (c k) ≡ d k
    go (yes z) = rw z (hit i v (c i) ∙ sym e)
    go (no z) = miss k i v (c k) z ∙ h k (omega arith)

one_more : (s s₁ : Store) (i : ℕ) → Begun s s₁ i → Begun s (on_store s₁ (start_writes i (s₁ (rc FIRST) i))) (suc i)
one_more s s₁ i b =
    let a : s (rc FIRST) i ≡ s₁ (rc FIRST) i = sym (ap (λ (c : ℕ → ℕ). c i) b.firsts) in
    record {
      points = b.points;
      counts = b.counts;
      flags = b.flags;
      owners = b.owners;
      firsts = b.firsts;
      reasons = b.reasons;
      takers = b.takers;
      marks = more i 0 (s₁ (rc MARK)) (λ k. 0) b.marks refl;
      presents = more i (s₁ (rc FIRST) i) (s₁ (rc PRESENT)) (s (rc FIRST)) b.presents a;
      starts = more i (s₁ (rc FIRST) i) (s₁ (rc START)) (s (rc FIRST)) b.starts a;
      cuts = more i NONE (s₁ (rc CUT)) (λ k. NONE) b.cuts refl;
    }

pub length_start : (w : List ℕ) (i : ℕ) → length (start_to i w) ≡ length w
unfolding start_to start_ring
length_start w zero = refl
length_start w (suc i) = length_writes (start_to i w) (start_writes i (first_of (start_to i w) i)) ∙ length_start w i

pub begun : (w : List ℕ) → BLOCK ≤ length w → (i : ℕ) → i ≤ limit.RECORDS → Begun (view w) (view (start_to i w)) i
unfolding start_to start_ring
begun w long zero h = none (view w)
begun w long (suc i) h =
    let l : i < limit.RECORDS = omega arith in
    subst (λ (s : Store). Begun (view w) s (suc i))
    (sym (view_writes (start_to i w) (start_writes i (first_of (start_to i w) i)) (omega (arith, length_start w i)) (l, (l, (l, (l, tt))))))
    (one_more (view w) (view (start_to i w)) i (begun w long i (omega arith)))

-- ---- the loop

pub start_none : (w : List ℕ) → w ≡ start_to 0 w
unfolding start_to
start_none w = refl

pub start_next : (w w₁ w₂ : List ℕ) (i : ℕ) → w₁ ≡ start_to i w → w₂ ≡ start_ring w₁ i → w₂ ≡ start_to (i + 1) w
unfolding start_to
start_next w w₁ w₂ i e f = rw add-one (f ∙ ap (λ (x : List ℕ). start_ring x i) e)

pub start_done : (w w₁ : List ℕ) (n i : ℕ) → n ≡ records_of w → n ≤ i → i ≤ n → w₁ ≡ start_to i w → w₁ ≡ start_to (records_of w) w
start_done w w₁ n i e h k f = let d : i ≡ records_of w = omega arith in f ∙ ap (λ (j : ℕ). start_to j w) d

-- ---- and then the boxes

module _ (w : List ℕ) (long : BLOCK ≤ length w) (few : records_of w ≤ limit.RECORDS) where
  pub set_long : (w₁ : List ℕ) → w₁ ≡ start_to (records_of w) w → BLOCK ≤ length w₁
  set_long w₁ e = omega (arith, ap length e, length_start w (records_of w))

  same_records : records_of (start_to (records_of w) w) ≡ records_of w
  same_records = ap (λ (c : ℕ → ℕ). c 0) ((begun w long (records_of w) few).counts RECORDS)

  pub set_few : (w₁ : List ℕ) → w₁ ≡ start_to (records_of w) w → records_of w₁ ≤ limit.RECORDS
  set_few w₁ e = omega (arith, ap records_of e, same_records)

  view_starts : view (start_rings w) ≡ view (start_to (records_of w) w)
  unfolding start_rings
  view_starts = view_all (start_to (records_of w) w)

  pub boxes_start : (i : ℕ) → i < records_of (start_rings w) → sides_at (start_rings w) i ≡ sides_of (ring_box (view (start_rings w)) i)
  unfolding start_rings
  boxes_start i h =
      all_here (start_to (records_of w) w) (set_long (start_to (records_of w) w) refl) (set_few (start_to (records_of w) w) refl) i (omega (arith, ap (λ (s : Store). s (ct RECORDS) 0) (view_all (start_to (records_of w) w))))
      ∙ ap (λ (s : Store). sides_of (ring_box s i)) (sym (view_all (start_to (records_of w) w)))

-- ---- sound and fresh

module _ (s s' : Store) (b : Begun s s' (recs s)) where
  pub recs_same : recs s' ≡ recs s
  recs_same = ap (λ (c : ℕ → ℕ). c 0) (b.counts RECORDS)

  pub pts_same : pts s' ≡ pts s
  pts_same = ap (λ (c : ℕ → ℕ). c 0) (b.counts POINTS)

  pub first_same : (i : ℕ) → s' (rc FIRST) i ≡ s (rc FIRST) i
  first_same i = ap (λ (c : ℕ → ℕ). c i) b.firsts

  pub ring_same : (i : ℕ) → ring_at s' i ≡ ring_at s i
  ring_same i = rw (first_same i, b.points NEXT)

  pub ringless_same : (i : ℕ) → ringless s' i ≡ ringless s i
  ringless_same i = rw (first_same i)

  pub open_same : (i : ℕ) → is_open s' i ≡ is_open s i
  open_same i = ap (λ (c : ℕ → ℕ). eqb (c i % 2) 1) b.flags

  total_same : (k : ℕ) → total s' k ≡ total s k
  total_same k = rw recs_same (sum_same (recs s) (λ i. occ k (ring_at s i)) (λ i. occ k (ring_at s' i)) (λ i h. ap (occ k) (ring_same i)))

  column : (f : PointCol) (k : ℕ) → s' (pt f) k ≡ s (pt f) k
  column f k = ap (λ (c : ℕ → ℕ). c k) (b.points f)

  module _ (o : Resolved s) where
    -- every ring is whole, and its points resolve as they did
    pub resolved : Resolved s'
    resolved =
        record {
          few_points = omega (arith, pts_same, o.few_points);
          few_records = omega (arith, recs_same, o.few_records);
          whole = λ i h. rw (ring_same i, b.points NEXT, b.points PREV, pts_same) (o.whole i (omega (arith, recs_same)));
          home = λ i k h p. home i k (omega (arith, recs_same)) (rw (ring_same i) at p);
          placed = λ k h. rw (total_same k) (o.placed k (omega (arith, pts_same)));
          x_in = λ k h. rw (column X k) (o.x_in k (omega (arith, pts_same)));
          y_in = λ k h. rw (column Y k) (o.y_in k (omega (arith, pts_same)));
          owner_in = λ i h. rw (b.owners, recs_same) (o.owner_in i (omega (arith, recs_same)));
          emptied = λ i h e. emptied_kept s s' i (ap (λ (c : ℕ → ℕ). c i) b.reasons) (ap (λ (c : ℕ → ℕ). c i) b.takers) (omega (arith, recs_same)) (o.emptied i (omega (arith, recs_same)) (sym (ringless_same i) ∙ e));
        }
      where
        home : (i k : ℕ) → i < recs s → 0 < occ k (ring_at s i) → Resolves s' (s' (pt REC) k) i
        home i k h p =
            let t = o.home i k h p in
            record {
              via = t.via;
              path = rw (column REC k, b.firsts, b.owners) t.path;
              low = rw recs_same t.low;
              real = omega (arith, recs_same, t.real);
              some = λ z. t.some (sym (first_same i) ∙ z);
            }

    -- so the tests of a handed work space pass
    pub sound : Sound s'
    sound =
        resolved_sound s' resolved
        (λ i c. omega (arith, b.marks i (omega (arith, c.known, recs_same))))
        (λ i c d. rw (b.presents i (omega (arith, c.known, recs_same)), ring_same i) (first_on s i (sym (ringless_same i) ∙ c.ringed)))

    -- every ring is at its start
    pub fresh : (i : ℕ) → i < recs s' → Fresh s' i
    fresh i h =
        let l : i < recs s = omega (arith, recs_same) in
        record {
          cut_is = b.cuts i l;
          mark_is = λ r a. b.marks i l;
        }

-- ---- the same of words

module _ (w : List ℕ) (r : Ready w) where
  pub begun_all : Begun (view w) (view (start_rings w)) (recs (view w))
  begun_all =
      subst (λ (s : Store). Begun (view w) s (recs (view w))) (sym (view_starts w r.long r.resolved.few_records))
      (begun w r.long (records_of w) r.resolved.few_records)

  pub start_long : BLOCK ≤ length (start_rings w)
  unfolding start_rings
  start_long = omega (arith, length_all (start_to (records_of w) w), length_start w (records_of w), r.long)

  pub start_ready : Ready (start_rings w)
  start_ready = record { long = start_long; resolved = resolved (view w) (view (start_rings w)) begun_all r.resolved }

  pub start_sound : Sound (view (start_rings w))
  start_sound = sound (view w) (view (start_rings w)) begun_all r.resolved

  pub start_fresh : (i : ℕ) → i < recs (view (start_rings w)) → Fresh (view (start_rings w)) i
  start_fresh = fresh (view w) (view (start_rings w)) begun_all r.resolved
