-- An offcut: two points that are on no ring and a fresh one become the ring of a new record; then the whole of a cut that makes one.
use Prim.Native.Nat.{ℕ, suc, ◌+◌, ◌≤◌, ◌<◌}
use mathlib.Core.Path.{◌≡◌, refl, ap, ◌∙◌, sym, subst}
use mathlib.Core.Logic.{◌≢◌, ◌⊎◌, inl, inr}
use mathlib.Core.Bool.{Bool, true, false, cond}
use mathlib.Core.List.{List, [], ◌∷◌}
use mathlib.Core.Option.{some}
use native.Mathlib.Omega.{arith}
use native.Mathlib.Decide.{ℕ_discrete}
use lib.Dec.{eqb}
use lib.ListN.{take}
use Rattle.rings.proofs.Counting.{one_le, one_else, in_all, sum_term}
use Rattle.rings.proofs.Placing.{place_head}
use Rattle.rings.specs.Count.{one, occ}
use Rattle.rings.specs.Links.{Linked}
use Rattle.rings.specs.Place.{place}
use Rattle.rings.specs.Progress.{Ring, Due, at_start, validity}
use Rattle.lone.proofs.Acting.{count}
use Rattle.lone.specs.Act.{cut, takes_points, rings_new}
use Rattle.store.proofs.Keeping.{Kept, kept_new, sound_after, once_new, lone_other, past}
use Rattle.store.proofs.Storing.{unwritten, hit, miss}
use Rattle.store.specs.Field.{pt, rc, X, Y, Z, NEXT, PREV, REC, FLAGS, OWNER, PRESENT, START, CUT, NONE}
use Rattle.store.specs.Sound.{pts, recs, ring_at, is_open, lone_at, Closed}
use Rattle.store.specs.Good.{total, PointIn, Good, Sound}
use Rattle.store.specs.Words.{Store}
use Rattle.store.specs.Stores.{on_store}
use Rattle.acts.proofs.Positions.{Positioned, Loop, lone_is, good_is, occ_from}
use Rattle.acts.proofs.Representing.{SameStart, ActDone}
use Rattle.acts.specs.Writes.{offcut_writes}

-- two neighbours that are on no ring
pub record CutAway (s : Store) (x y : ℕ) : Type 0 where
  pub x_point : PointIn s x
  pub y_point : PointIn s y
  pub two : x ≢ y
  pub x_free : total s x ≡ 0
  pub y_free : total s y ≡ 0
  pub x_next : s (pt NEXT) x ≡ y
  pub y_prev : s (pt PREV) y ≡ x

module _ (s : Store) (o : Sound s) (i x y vx vy vz : ℕ) (h : i < recs s) (q : CutAway s x y) (hx : vx ≤ 2097152) (hy : vy ≤ 2097152) (room : pts s < 2048) (more : recs s < 512) where
  -- what is on a ring is none of them
  other : (j k : ℕ) → j < recs s → 0 < occ k (ring_at s j) → (k < pts s) × (k ≢ x) × (k ≢ y)
  other j k l p = (
    ((o.good j l).points_in_lem k p).below,
    λ t. omega (arith, q.x_free, sum_term (recs s) j (λ (n : ℕ). occ x (ring_at s n)) l, subst (λ (n : ℕ). 0 < occ n (ring_at s j)) t p),
    λ t. omega (arith, q.y_free, sum_term (recs s) j (λ (n : ℕ). occ y (ring_at s n)) l, subst (λ (n : ℕ). 0 < occ n (ring_at s j)) t p),
  )

  pub offcut_kept : Kept s (on_store s (offcut_writes s i x y vx vy vz)) (recs s)
  offcut_kept =
      record {
        points_up = omega arith;
        records_up = omega arith;
        records = λ f j l n. unwritten s (offcut_writes s i x y vx vy vz) (rc f) j (inl refl, (inl refl, (inl refl, (inl refl, (inl refl, (inl refl, (inl refl, (inl refl, (inl refl, (inl refl, (inl refl, (inl refl, (inr n, (inr n, (inr n, (inr n, (inr n, (inr n, (inr n, tt)))))))))))))))))));
        xs = λ k l. miss k (pts s) vx (s (pt X) k) (λ t. omega arith);
        ys = λ k l. miss k (pts s) vy (s (pt Y) k) (λ t. omega arith);
        zs = λ k l. miss k (pts s) vz (s (pt Z) k) (λ t. omega arith);
        nexts = λ j k l d p. let g = other j k l p in unwritten s (offcut_writes s i x y vx vy vz) (pt NEXT) k (inl refl, (inl refl, (inl refl, (inl refl, (inl refl, (inl refl, (inl refl, (inl refl, (inr (λ t. omega (arith, g.0)), (inl refl, (inr g.2, (inl refl, (inl refl, (inl refl, (inl refl, (inl refl, (inl refl, (inl refl, (inl refl, tt)))))))))))))))))));
        prevs = λ j k l d p. let g = other j k l p in unwritten s (offcut_writes s i x y vx vy vz) (pt PREV) k (inl refl, (inl refl, (inl refl, (inl refl, (inl refl, (inl refl, (inl refl, (inl refl, (inl refl, (inr (λ t. omega (arith, g.0)), (inl refl, (inr g.1, (inl refl, (inl refl, (inl refl, (inl refl, (inl refl, (inl refl, (inl refl, tt)))))))))))))))))));
        recordings = λ j k l d p. let g = other j k l p in unwritten s (offcut_writes s i x y vx vy vz) (pt REC) k (inl refl, (inr g.1, (inr g.2, (inl refl, (inl refl, (inl refl, (inl refl, (inr (λ t. omega (arith, g.0)), (inl refl, (inl refl, (inl refl, (inl refl, (inl refl, (inl refl, (inl refl, (inl refl, (inl refl, (inl refl, (inl refl, tt)))))))))))))))))));
      }

  x_low : x < pts s
  x_low = q.x_point.below

  y_low : y < pts s
  y_low = q.y_point.below

  new_linked : Linked (on_store s (offcut_writes s i x y vx vy vz) (pt NEXT)) (on_store s (offcut_writes s i x y vx vy vz) (pt PREV)) (pts s ∷ x ∷ y ∷ [])
  new_linked = (
    miss (pts s) y (pts s) (cond (eqb (pts s) (pts s)) x (s (pt NEXT) (pts s))) (λ t. omega (arith, y_low)) ∙ hit (pts s) x (s (pt NEXT) (pts s)),
    hit x (pts s) (cond (eqb x (pts s)) y (s (pt PREV) x)),
    (
      miss x y (pts s) (cond (eqb x (pts s)) x (s (pt NEXT) x)) q.two ∙ miss x (pts s) x (s (pt NEXT) x) (λ t. omega (arith, x_low)) ∙ q.x_next,
      miss y x (pts s) (cond (eqb y (pts s)) y (s (pt PREV) y)) (λ t. q.two (sym t)) ∙ miss y (pts s) y (s (pt PREV) y) (λ t. omega (arith, y_low)) ∙ q.y_prev,
      (
        hit y (pts s) (cond (eqb y (pts s)) x (s (pt NEXT) y)),
        miss (pts s) x (pts s) (cond (eqb (pts s) (pts s)) y (s (pt PREV) (pts s))) (λ t. omega (arith, x_low)) ∙ hit (pts s) y (s (pt PREV) (pts s)),
        tt,
      ),
    ),
  )

  new_all : (Q : ℕ → Type 0) → Q (pts s) → Q x → Q y → (k : ℕ) → 0 < occ k (pts s ∷ x ∷ y ∷ []) → Q k
  new_all Q a b c k p = in_all Q (pts s ∷ x ∷ y ∷ []) k (a, (b, (c, tt))) p

  new_once : (k : ℕ) → occ k (pts s ∷ x ∷ y ∷ []) ≤ 1
  new_once k = go (ℕ_discrete (pts s) k) (ℕ_discrete x k) (ℕ_discrete y k)
    where
      le : (n : ℕ) → one k n ≤ 1
      le n = one_le k n

      go : Dec (pts s ≡ k) → Dec (x ≡ k) → Dec (y ≡ k) → occ k (pts s ∷ x ∷ y ∷ []) ≤ 1
      go (yes e) _ _ = omega (arith, le (pts s), one_else k x (λ t. omega (arith, x_low)), one_else k y (λ t. omega (arith, y_low)))
      go (no a) (yes e) _ = omega (arith, one_else k (pts s) a, le x, one_else k y (λ t. q.two (e ∙ sym t)))
      go (no a) (no b) _ = omega (arith, one_else k (pts s) a, one_else k x b, le y)

  positioned : Positioned (on_store s (offcut_writes s i x y vx vy vz)) (recs s) (pts s) (x ∷ y ∷ []) 0 (some 0) validity
  positioned =
      record {
        few = omega arith;
        present_is = hit (recs s) _ _;
        mark_is = hit (recs s) _ _;
        whole = record { linked = new_linked; once = new_once; below = new_all (λ k. k < suc (pts s)) (omega arith) (omega (arith, x_low)) (omega (arith, y_low)) };
        first_at = ap (λ (n : ℕ). place n (pts s ∷ x ∷ y ∷ [])) (hit (recs s) _ _) ∙ place_head (pts s) (x ∷ y ∷ []);
        start_at = ap (λ (n : ℕ). place n (pts s ∷ x ∷ y ∷ [])) (hit (recs s) _ _) ∙ place_head (pts s) (x ∷ y ∷ []);
      }

  old_point : (k : ℕ) → PointIn s k → on_store s (offcut_writes s i x y vx vy vz) (pt REC) k ≡ recs s → PointIn (on_store s (offcut_writes s i x y vx vy vz)) k
  old_point k t e =
      record {
        below = omega (arith, t.below);
        x_in = rw (miss k (pts s) vx (s (pt X) k) (λ z. omega (arith, t.below))) t.x_in;
        y_in = rw (miss k (pts s) vy (s (pt Y) k) (λ z. omega (arith, t.below))) t.y_in;
        record_in = rw e (omega arith);
      }

  new_point : PointIn (on_store s (offcut_writes s i x y vx vy vz)) (pts s)
  new_point =
      record {
        below = omega arith;
        x_in = rw (hit (pts s) vx (s (pt X) (pts s))) hx;
        y_in = rw (hit (pts s) vy (s (pt Y) (pts s))) hy;
        record_in = rw (hit (pts s) (recs s) (cond (eqb (pts s) y) (recs s) (cond (eqb (pts s) x) (recs s) (s (pt REC) (pts s))))) (omega arith);
      }

  x_record : on_store s (offcut_writes s i x y vx vy vz) (pt REC) x ≡ recs s
  x_record = miss x (pts s) (recs s) _ (λ t. omega (arith, x_low)) ∙ miss x y (recs s) _ q.two ∙ hit x (recs s) (s (pt REC) x)

  y_record : on_store s (offcut_writes s i x y vx vy vz) (pt REC) y ≡ recs s
  y_record = miss y (pts s) (recs s) _ (λ t. omega (arith, y_low)) ∙ hit y (recs s) _

  owner : (s (rc OWNER) i ≡ NONE) ⊎ (s (rc OWNER) i < recs s) → (on_store s (offcut_writes s i x y vx vy vz) (rc OWNER) (recs s) ≡ NONE) ⊎ (on_store s (offcut_writes s i x y vx vy vz) (rc OWNER) (recs s) < suc (recs s))
  owner (inl e) = inl (hit (recs s) _ _ ∙ e)
  owner (inr l) = inr (rw (hit (recs s) (s (rc OWNER) i) (s (rc OWNER) (recs s))) (omega arith))

  pub offcut_sound : Sound (on_store s (offcut_writes s i x y vx vy vz))
  offcut_sound =
      sound_after s (on_store s (offcut_writes s i x y vx vy vz)) o (recs s) offcut_kept (omega arith) (omega arith)
      (good_is (on_store s (offcut_writes s i x y vx vy vz)) (recs s) _ _ _ _ validity positioned (new_all (PointIn (on_store s (offcut_writes s i x y vx vy vz))) new_point (old_point x q.x_point x_record) (old_point y q.y_point y_record)) (owner (o.good i h).owner))
      (λ j a b. absurd_at j a b)
      (once_new s (on_store s (offcut_writes s i x y vx vy vz)) o (recs s) offcut_kept refl refl (λ k. rw (oc k) (new_once k)) (λ k p. new_all (λ n. total s n ≡ 0) (past s (on_store s (offcut_writes s i x y vx vy vz)) o (recs s) offcut_kept (pts s) (omega arith)) q.x_free q.y_free k (rw (oc k) at p)))
    where
      oc : (k : ℕ) → occ k (ring_at (on_store s (offcut_writes s i x y vx vy vz)) (recs s)) ≡ occ k (pts s ∷ x ∷ y ∷ [])
      oc k = occ_from (on_store s (offcut_writes s i x y vx vy vz)) (recs s) _ _ _ _ validity positioned k

      absurd_at : (j : ℕ) → recs s ≤ j → j < suc (recs s) → Good (on_store s (offcut_writes s i x y vx vy vz)) j
      absurd_at j a b = subst (Good (on_store s (offcut_writes s i x y vx vy vz))) (eq j a b) (good_is (on_store s (offcut_writes s i x y vx vy vz)) (recs s) _ _ _ _ validity positioned (new_all (PointIn (on_store s (offcut_writes s i x y vx vy vz))) new_point (old_point x q.x_point x_record) (old_point y q.y_point y_record)) (owner (o.good i h).owner))
        where
          eq : (j : ℕ) → recs s ≤ j → j < suc (recs s) → recs s ≡ j
          eq j a b = omega arith

  pub offcut_lone : lone_at (on_store s (offcut_writes s i x y vx vy vz)) (recs s) ≡ at_start (pts s ∷ x ∷ y ∷ [])
  offcut_lone = lone_is (on_store s (offcut_writes s i x y vx vy vz)) (recs s) _ _ _ _ validity positioned

  pub offcut_closed : is_open (on_store s (offcut_writes s i x y vx vy vz)) (recs s) ≡ false
  offcut_closed = rw (hit (recs s) 0 (s (rc FLAGS) (recs s))) refl

  pub offcut_from : on_store s (offcut_writes s i x y vx vy vz) (rc CUT) (recs s) ≡ i
  offcut_from = hit (recs s) _ _

  pub offcut_start : on_store s (offcut_writes s i x y vx vy vz) (rc START) (recs s) < suc (pts s)
  offcut_start = rw (hit (recs s) (pts s) (s (rc START) (recs s))) (omega arith)

-- a cut with an offcut is the cut without one and then the new record
module _ (W : Type 0) (v : W) (s s₁ : Store) (o : Sound s) (i : ℕ) (c : Closed s i) (d₀ d : Due) (b : Loop s i (s (rc PRESENT) i) d₀)
    (y z u : ℕ) (r : List ℕ) (e : b.others ≡ y ∷ z ∷ u ∷ r) (put : Bool) (t : ActDone {W = W} s s₁ i (cut v put false d)) (q : CutAway s₁ (s (rc PRESENT) i) y)
    (vx vy vz : ℕ) (hx : vx ≤ 2097152) (hy : vy ≤ 2097152) (room : pts s₁ < 2048) (more : recs s < 512) where
  h₁ : i < recs s₁
  h₁ = rw t.made c.known

  more₁ : recs s₁ < 512
  more₁ = rw t.made more

  N : Kept s₁ (on_store s₁ (offcut_writes s₁ i (s (rc PRESENT) i) y vx vy vz)) (recs s₁)
  N = offcut_kept s₁ t.sound i (s (rc PRESENT) i) y vx vy vz h₁ q hx hy room more₁

  not_new : i ≢ recs s₁
  not_new z = omega (arith, h₁)

  taken : pts s₁ ≡ pts s + takes_points (cut v put false d)
  taken = t.points

  count_is : (put : Bool) → takes_points (cut v put false d) ≡ count (rings_new (cut v put true d))
  count_is true = refl
  count_is false = refl

  takes_is : (put : Bool) → takes_points (cut v put true d) ≡ suc (takes_points (cut v put false d))
  takes_is true = refl
  takes_is false = refl

  new_same : (put : Bool) → rings_new (cut v put false d) ≡ rings_new (cut v put true d)
  new_same true = refl
  new_same false = refl

  pub offcut_steps : ActDone {W = W} s (on_store s₁ (offcut_writes s₁ i (s (rc PRESENT) i) y vx vy vz)) i (cut v put true d)
  offcut_steps =
      record {
        kept = kept_new s s₁ (on_store s₁ (offcut_writes s₁ i (s (rc PRESENT) i) y vx vy vz)) o i c.known t.kept t.made N;
        sound = offcut_sound s₁ t.sound i (s (rc PRESENT) i) y vx vy vz h₁ q hx hy room more₁;
        points = omega (arith, t.points, takes_is put);
        flags = N.records FLAGS i h₁ not_new ∙ t.flags;
        is_cut_from = N.records CUT i h₁ not_new ∙ t.is_cut_from;
        start_is = start t.start_is;
        ring = λ started. lone_other s₁ (on_store s₁ (offcut_writes s₁ i (s (rc PRESENT) i) y vx vy vz)) t.sound (recs s₁) N i h₁ not_new (rw t.flags c.closed) ∙ t.ring (λ w h. started w (sym (new_same put) ∙ h));
        made = (
          ap suc t.made,
          ap (λ (n : ℕ). lone_at (on_store s₁ (offcut_writes s₁ i (s (rc PRESENT) i) y vx vy vz)) n) (sym t.made) ∙ offcut_lone s₁ t.sound i (s (rc PRESENT) i) y vx vy vz h₁ q hx hy room more₁ ∙ ap (λ (n : ℕ). at_start (n ∷ s (rc PRESENT) i ∷ y ∷ [])) (t.points ∙ ap (λ (n : ℕ). pts s + n) (count_is put)) ∙ ap (λ (l : List ℕ). at_start ((pts s + count (rings_new (cut v put true d))) ∷ take 2 l)) (sym circle_is),
          ap (is_open (on_store s₁ (offcut_writes s₁ i (s (rc PRESENT) i) y vx vy vz))) (sym t.made) ∙ offcut_closed s₁ t.sound i (s (rc PRESENT) i) y vx vy vz h₁ q hx hy room more₁,
          ap (on_store s₁ (offcut_writes s₁ i (s (rc PRESENT) i) y vx vy vz) (rc CUT)) (sym t.made) ∙ offcut_from s₁ t.sound i (s (rc PRESENT) i) y vx vy vz h₁ q hx hy room more₁,
          subst (λ (n : ℕ). on_store s₁ (offcut_writes s₁ i (s (rc PRESENT) i) y vx vy vz) (rc START) n < suc (pts s₁)) t.made (offcut_start s₁ t.sound i (s (rc PRESENT) i) y vx vy vz h₁ q hx hy room more₁),
        );
      }
    where
      start : (s₁ (rc START) i < pts s) ⊎ SameStart s s₁ i
          → (on_store s₁ (offcut_writes s₁ i (s (rc PRESENT) i) y vx vy vz) (rc START) i < pts s) ⊎ SameStart s (on_store s₁ (offcut_writes s₁ i (s (rc PRESENT) i) y vx vy vz)) i
      start (inl l) = inl (rw (N.records START i h₁ not_new) l)
      start (inr k) = inr (record { known = c.known; same = N.records START i h₁ not_new ∙ k.same; looped = λ h. (c, b.looping) })

      circle_is : (lone_at s i).circle ≡ s (rc PRESENT) i ∷ y ∷ z ∷ u ∷ r
      circle_is = ap (λ (R : Ring ℕ). R.circle) b.lone_is ∙ ap (λ (l : List ℕ). s (rc PRESENT) i ∷ l) e
