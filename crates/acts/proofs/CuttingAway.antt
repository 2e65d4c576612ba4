-- The two points that a cut takes out of a ring are on no ring then, and still linked with each other.
use Prim.Native.Nat.{ℕ, ◌+◌, ◌≤◌, ◌<◌}
use mathlib.Core.Path.{◌≡◌, refl, ◌∙◌, sym, subst}
use mathlib.Core.Logic.{◌≢◌}
use mathlib.Core.List.{List, ◌∷◌}
use native.Mathlib.Omega.{arith}
use Rattle.rings.proofs.Counting.{one_here, one_else, occ_head, occ_last_of}
use Rattle.rings.specs.Circle.{last_of}
use Rattle.rings.specs.Count.{one, occ}
use Rattle.rings.specs.Progress.{Due}
use Rattle.store.proofs.Keeping.{Kept, total_left}
use Rattle.store.proofs.Storing.{miss}
use Rattle.store.specs.Field.{pt, rc, X, Y, PREV, REC, PRESENT}
use Rattle.store.specs.Sound.{pts, recs, ring_at, Closed}
use Rattle.store.specs.Good.{total, PointIn, Sound}
use Rattle.store.specs.Words.{Store}
use Rattle.store.specs.Stores.{on_store}
use Rattle.acts.proofs.Cutting.{Four, cut_steps, cut_occ}
use Rattle.acts.proofs.Offcuts.{CutAway}
use Rattle.acts.proofs.Positions.{Loop}
use Rattle.acts.proofs.Putting.{put_steps, put_occ, next_else, prev_else}
use Rattle.acts.specs.Writes.{cut_writes, cut_put_writes}

module _ (s : Store) (o : Sound s) (i : ℕ) (c : Closed s i) (y z u : ℕ) (r : List ℕ) (q : Four s i y z u r) where
  x_on : 0 < occ (s (rc PRESENT) i) (ring_at s i)
  x_on = rw (q.occs (s (rc PRESENT) i)) (occ_head (s (rc PRESENT) i) (y ∷ z ∷ u ∷ r))

  y_on : 0 < occ y (ring_at s i)
  y_on = rw (q.occs y) (omega (arith, occ_head y (z ∷ u ∷ r)))

  apart : s (rc PRESENT) i ≢ y
  apart e = omega (arith, q.whole.once y, one_here y, subst (λ (n : ℕ). one y n ≡ 1) (sym e) (one_here y))

  not_p : s (rc PRESENT) i ≢ last_of u r
  not_p e = omega (arith, q.whole.once (last_of u r), occ_last_of u r, subst (λ (n : ℕ). one (last_of u r) n ≡ 1) (sym e) (one_here (last_of u r)))

  not_z : y ≢ z
  not_z e = omega (arith, q.whole.once z, one_here z, subst (λ (n : ℕ). one z n ≡ 1) (sym e) (one_here z))

  point_x : PointIn s (s (rc PRESENT) i)
  point_x = (o.good i c.known).points_in_lem (s (rc PRESENT) i) x_on

  point_y : PointIn s y
  point_y = (o.good i c.known).points_in_lem y y_on

  -- on no ring: it was once on this one, and is not now
  free : (s₁ : Store) → Kept s s₁ i → recs s₁ ≡ recs s → (k : ℕ) → 0 < occ k (ring_at s i) → occ k (ring_at s₁ i) + 1 ≤ occ k (ring_at s i) → total s₁ k ≡ 0
  free s₁ K e k p l = omega (arith, total_left s s₁ o i K c.known k e, o.once k)

  module _ (W : Type 0) (v : W) (d₀ d : Due) (b : Loop s i (s (rc PRESENT) i) d₀) (e : b.others ≡ y ∷ z ∷ u ∷ r) where
    pub plain_away : CutAway (on_store s (cut_writes s i d)) (s (rc PRESENT) i) y
    plain_away =
        let K : Kept s (on_store s (cut_writes s i d)) i = (cut_steps W v s o i c d₀ d b y z u r e q).kept in
        record {
          x_point = record { below = point_x.below; x_in = point_x.x_in; y_in = point_x.y_in; record_in = point_x.record_in };
          y_point = record { below = point_y.below; x_in = point_y.x_in; y_in = point_y.y_in; record_in = point_y.record_in };
          two = apart;
          x_free = free (on_store s (cut_writes s i d)) K refl (s (rc PRESENT) i) x_on (omega (arith, cut_occ W v s o i c d₀ d b y z u r e q (s (rc PRESENT) i), one_here (s (rc PRESENT) i)));
          y_free = free (on_store s (cut_writes s i d)) K refl y y_on (omega (arith, cut_occ W v s o i c d₀ d b y z u r e q y, one_here y));
          x_next = miss (s (rc PRESENT) i) _ _ _ (λ t. not_p (t ∙ q.prev_p)) ∙ q.next_y;
          y_prev = miss y _ _ _ (λ t. not_z (t ∙ q.next_z)) ∙ q.whole.linked.1;
        }

    module _ (vx vy vz : ℕ) (hx : vx ≤ 2097152) (hy : vy ≤ 2097152) (room : pts s < 2048) where
      point_in' : (k : ℕ) → PointIn s k → PointIn (on_store s (cut_put_writes s i vx vy vz d)) k
      point_in' k t =
          let n : k ≢ pts s = λ w. omega (arith, t.below) in
          record {
            below = omega (arith, t.below);
            x_in = rw (miss k (pts s) vx (s (pt X) k) n) t.x_in;
            y_in = rw (miss k (pts s) vy (s (pt Y) k) n) t.y_in;
            record_in = rw (miss k (pts s) (s (pt REC) (s (pt PREV) (s (rc PRESENT) i))) (s (pt REC) k) n) t.record_in;
          }

      pub put_away : CutAway (on_store s (cut_put_writes s i vx vy vz d)) (s (rc PRESENT) i) y
      put_away =
          let K : Kept s (on_store s (cut_put_writes s i vx vy vz d)) i = (put_steps W v s o i c d₀ d b y z u r e q vx vy vz hx hy room).kept in
          record {
            x_point = point_in' (s (rc PRESENT) i) point_x;
            y_point = point_in' y point_y;
            two = apart;
            x_free = free (on_store s (cut_put_writes s i vx vy vz d)) K refl (s (rc PRESENT) i) x_on (omega (arith, put_occ W v s o i c d₀ d b y z u r e q vx vy vz hx hy room (s (rc PRESENT) i), one_here (s (rc PRESENT) i), one_else (s (rc PRESENT) i) (pts s) (λ t. omega (arith, point_x.below))));
            y_free = free (on_store s (cut_put_writes s i vx vy vz d)) K refl y y_on (omega (arith, put_occ W v s o i c d₀ d b y z u r e q vx vy vz hx hy room y, one_here y, one_else y (pts s) (λ t. omega (arith, point_y.below))));
            x_next = next_else W v s o i c d₀ d b y z u r e q vx vy vz hx hy room (s (rc PRESENT) i) point_x.below (λ t. not_p (t ∙ q.prev_p)) ∙ q.next_y;
            y_prev = prev_else W v s o i c d₀ d b y z u r e q vx vy vz hx hy room y point_y.below (λ t. not_z (t ∙ q.next_z)) ∙ q.whole.linked.1;
          }
