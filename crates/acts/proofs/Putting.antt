-- A cut, as far as the ring itself is concerned: the crossing is put in.
use Prim.Native.Nat.{ℕ, suc, ◌+◌, ◌≤◌, ◌<◌}
use mathlib.Core.Path.{◌≡◌, refl, ap, ◌∙◌, sym, subst}
use mathlib.Core.Logic.{◌≢◌, inl, inr}
use mathlib.Core.Bool.{true, false, cond}
use mathlib.Core.List.{List, ◌∷◌}
use mathlib.Core.Option.{Option, none}
use native.Mathlib.Omega.{arith}
use native.Mathlib.Decide.{ℕ_discrete}
use lib.Dec.{eqb}
use Rattle.rings.proofs.Counting.{occ_last, one_else, occ_head, occ_last_of, all_in}
use Rattle.rings.proofs.Linking.{linked_splice}
use Rattle.rings.proofs.Placing.{place_head, place_cut, not_last, not_first}
use Rattle.rings.specs.Circle.{last_of, init_of}
use Rattle.rings.specs.Count.{one, occ}
use Rattle.rings.specs.Place.{place}
use Rattle.rings.specs.Progress.{Ring, Due, tidy, tidy_at}
use Rattle.rings.specs.Whole.{Whole}
use Rattle.lone.specs.Act.{cut, apply}
use Rattle.store.proofs.Keeping.{Kept, Local, local_kept}
use Rattle.store.proofs.Storing.{unwritten, hit, miss}
use Rattle.store.specs.Field.{pt, rc, X, Y, Z, NEXT, PREV, REC, PRESENT, START}
use Rattle.store.specs.Sound.{pts, ring_at, Closed}
use Rattle.store.specs.Good.{PointIn, Sound}
use Rattle.store.specs.Words.{Store}
use Rattle.store.specs.Stores.{on_store}
use Rattle.acts.proofs.Cutting.{Four}
use Rattle.acts.proofs.Doubling.{once_snoc}
use Rattle.acts.proofs.Positions.{Positioned, Loop, lone_is, occ_from, sound_is}
use Rattle.acts.proofs.Representing.{ActDone}
use Rattle.acts.specs.Writes.{cut_put_writes}

module _ (W : Type 0) (v : W) (s : Store) (o : Sound s) (i : ℕ) (c : Closed s i) (d₀ d : Due) (b : Loop s i (s (rc PRESENT) i) d₀)
    (y z u : ℕ) (r : List ℕ) (e : b.others ≡ y ∷ z ∷ u ∷ r) (q : Four s i y z u r)
    (vx vy vz : ℕ) (hx : vx ≤ 2097152) (hy : vy ≤ 2097152) (room : pts s < 2048) where
  p_in : s (pt PREV) (s (rc PRESENT) i) < pts s
  p_in = rw q.prev_p (q.whole.below (last_of u r) (omega (arith, occ_last_of u r)))

  z_in : s (pt NEXT) (s (pt NEXT) (s (rc PRESENT) i)) < pts s
  z_in = rw q.next_z (q.whole.below z (omega (arith, occ_head z (u ∷ r))))

  pub next_else : (k : ℕ) → k < pts s → k ≢ (s (pt PREV) (s (rc PRESENT) i)) → on_store s (cut_put_writes s i vx vy vz d) (pt NEXT) k ≡ s (pt NEXT) k
  next_else k l n = unwritten s (cut_put_writes s i vx vy vz d) (pt NEXT) k (inl refl, (inl refl, (inl refl, (inl refl, (inl refl, (inr (λ t. omega arith), (inl refl, (inr n, (inl refl, (inl refl, (inl refl, (inl refl, tt))))))))))))

  pub prev_else : (k : ℕ) → k < pts s → k ≢ (s (pt NEXT) (s (pt NEXT) (s (rc PRESENT) i))) → on_store s (cut_put_writes s i vx vy vz d) (pt PREV) k ≡ s (pt PREV) k
  prev_else k l n = unwritten s (cut_put_writes s i vx vy vz d) (pt PREV) k (inl refl, (inl refl, (inl refl, (inl refl, (inl refl, (inl refl, (inr (λ t. omega arith), (inl refl, (inr n, (inl refl, (inl refl, (inl refl, tt))))))))))))

  next_new : on_store s (cut_put_writes s i vx vy vz d) (pt NEXT) (pts s) ≡ (s (pt NEXT) (s (pt NEXT) (s (rc PRESENT) i)))
  next_new = miss (pts s) (s (pt PREV) (s (rc PRESENT) i)) (pts s) (cond (eqb (pts s) (pts s)) (s (pt NEXT) (s (pt NEXT) (s (rc PRESENT) i))) (s (pt NEXT) (pts s))) (λ t. omega (arith, p_in)) ∙ hit (pts s) (s (pt NEXT) (s (pt NEXT) (s (rc PRESENT) i))) (s (pt NEXT) (pts s))

  prev_new : on_store s (cut_put_writes s i vx vy vz d) (pt PREV) (pts s) ≡ (s (pt PREV) (s (rc PRESENT) i))
  prev_new = miss (pts s) (s (pt NEXT) (s (pt NEXT) (s (rc PRESENT) i))) (pts s) (cond (eqb (pts s) (pts s)) (s (pt PREV) (s (rc PRESENT) i)) (s (pt PREV) (pts s))) (λ t. omega (arith, z_in)) ∙ hit (pts s) (s (pt PREV) (s (rc PRESENT) i)) (s (pt PREV) (pts s))

  local : Local s (on_store s (cut_put_writes s i vx vy vz d)) i
  local =
      record {
        points_up = omega arith;
        records_up = omega arith;
        records = λ f j l n. unwritten s (cut_put_writes s i vx vy vz d) (rc f) j (inl refl, (inl refl, (inl refl, (inl refl, (inl refl, (inl refl, (inl refl, (inl refl, (inl refl, (inr n, (inr n, (inr n, tt))))))))))));
        xs = λ k l. miss k (pts s) vx (s (pt X) k) (λ t. omega arith);
        ys = λ k l. miss k (pts s) vy (s (pt Y) k) (λ t. omega arith);
        zs = λ k l. miss k (pts s) vz (s (pt Z) k) (λ t. omega arith);
        nexts = λ k l h. next_else k l (λ t. omega (arith, h, q.occs k, subst (λ (n : ℕ). 0 < occ n (u ∷ r)) (sym (t ∙ q.prev_p)) (occ_last_of u r)));
        prevs = λ k l h. prev_else k l (λ t. omega (arith, h, q.occs k, subst (λ (n : ℕ). 0 < occ n (z ∷ u ∷ r)) (sym (t ∙ q.next_z)) (occ_head z (u ∷ r))));
        recordings = λ k l h. miss k (pts s) (s (pt REC) (s (pt PREV) (s (rc PRESENT) i))) (s (pt REC) k) (λ t. omega arith);
      }

  kept : Kept s (on_store s (cut_put_writes s i vx vy vz d)) i
  kept = local_kept s (on_store s (cut_put_writes s i vx vy vz d)) o i c.known local

  -- the ring's points, and the new one
  changed : (k : ℕ) → occ k (last_of u r ∷ pts s ∷ z ∷ init_of u r) + (one k (s (rc PRESENT) i) + one k y) ≡ occ k (ring_at s i) + one k (pts s)
  changed k = omega (arith, q.occs k, occ_last k u r)

  old : (k : ℕ) → 0 < occ k (last_of u r ∷ pts s ∷ z ∷ init_of u r) → k ≢ pts s → 0 < occ k (ring_at s i)
  old k p n = omega (arith, changed k, one_else k (pts s) (λ t. n (sym t)))

  below₀ : (k : ℕ) → 0 < occ k (ring_at s i) → k < pts s
  below₀ k p = q.whole.below k (omega (arith, q.occs k))

  whole' : Whole (on_store s (cut_put_writes s i vx vy vz d) (pt NEXT)) (on_store s (cut_put_writes s i vx vy vz d) (pt PREV)) (suc (pts s)) (last_of u r ∷ pts s ∷ z ∷ init_of u r)
  whole' =
      record {
        linked = linked_splice (s (pt NEXT)) (s (pt PREV)) (on_store s (cut_put_writes s i vx vy vz d) (pt NEXT)) (on_store s (cut_put_writes s i vx vy vz d) (pt PREV)) (s (rc PRESENT) i) y z u r (pts s) q.whole.linked
            (all_in (λ k. on_store s (cut_put_writes s i vx vy vz d) (pt NEXT) k ≡ s (pt NEXT) k) (z ∷ init_of u r)
            (λ k p. next_else k (q.whole.below k (omega (arith, occ_last k u r))) (λ t. not_last z u r k (omega (arith, q.whole.once (last_of u r))) p (t ∙ q.prev_p))))
            (all_in (λ k. on_store s (cut_put_writes s i vx vy vz d) (pt PREV) k ≡ s (pt PREV) k) (u ∷ r)
            (λ k p. prev_else k (q.whole.below k (omega arith)) (λ t. not_first z (u ∷ r) k (omega (arith, q.whole.once z)) p (t ∙ q.next_z))))
            (ap (on_store s (cut_put_writes s i vx vy vz d) (pt NEXT)) (sym q.prev_p) ∙ hit (s (pt PREV) (s (rc PRESENT) i)) (pts s) (cond (eqb (s (pt PREV) (s (rc PRESENT) i)) (pts s)) (s (pt NEXT) (s (pt NEXT) (s (rc PRESENT) i))) (s (pt NEXT) (s (pt PREV) (s (rc PRESENT) i)))))
            (next_new ∙ q.next_z)
            (ap (on_store s (cut_put_writes s i vx vy vz d) (pt PREV)) (sym q.next_z) ∙ hit (s (pt NEXT) (s (pt NEXT) (s (rc PRESENT) i))) (pts s) (cond (eqb (s (pt NEXT) (s (pt NEXT) (s (rc PRESENT) i))) (pts s)) (s (pt PREV) (s (rc PRESENT) i)) (s (pt PREV) (s (pt NEXT) (s (pt NEXT) (s (rc PRESENT) i))))))
            (prev_new ∙ q.prev_p);
        once = λ k. omega (arith, changed k, once_snoc (pts s) (ring_at s i) (λ n. rw (q.occs n) (q.whole.once n)) below₀ k);
        below = λ k p. low k p (ℕ_discrete k (pts s));
      }
    where
      low : (k : ℕ) → 0 < occ k (last_of u r ∷ pts s ∷ z ∷ init_of u r) → Dec (k ≡ pts s) → k < suc (pts s)
      low k p (yes t) = omega arith
      low k p (no n) = omega (arith, below₀ k (old k p n))

  positioned : Positioned (on_store s (cut_put_writes s i vx vy vz d)) i (last_of u r) (pts s ∷ z ∷ init_of u r) 0 (place (s (rc START) i) (last_of u r ∷ pts s ∷ z ∷ init_of u r)) d
  positioned =
      record {
        few = omega arith;
        present_is = hit i _ _ ∙ q.prev_p;
        mark_is = hit i _ _;
        whole = whole';
        first_at = ap (λ (n : ℕ). place n (last_of u r ∷ pts s ∷ z ∷ init_of u r)) (hit i _ _ ∙ q.prev_p) ∙ place_head (last_of u r) (pts s ∷ z ∷ init_of u r);
        start_at = refl;
      }

  point_in_lem : (k : ℕ) → 0 < occ k (last_of u r ∷ pts s ∷ z ∷ init_of u r) → Dec (k ≡ pts s) → PointIn (on_store s (cut_put_writes s i vx vy vz d)) k
  point_in_lem k p (yes t) =
      subst (PointIn (on_store s (cut_put_writes s i vx vy vz d))) (sym t)
      (record {
        below = omega arith;
        x_in = rw (hit (pts s) vx (s (pt X) (pts s))) hx;
        y_in = rw (hit (pts s) vy (s (pt Y) (pts s))) hy;
        record_in = rw (hit (pts s) (s (pt REC) (s (pt PREV) (s (rc PRESENT) i))) (s (pt REC) (pts s)), q.prev_p) ((o.good i c.known).points_in_lem (last_of u r) (omega (arith, q.occs (last_of u r), occ_last_of u r))).record_in;
      })
  point_in_lem k p (no n) =
      let t : PointIn s k = (o.good i c.known).points_in_lem k (old k p n) in
      record {
        below = omega (arith, t.below);
        x_in = rw (miss k (pts s) vx (s (pt X) k) n) t.x_in;
        y_in = rw (miss k (pts s) vy (s (pt Y) k) n) t.y_in;
        record_in = rw (miss k (pts s) (s (pt REC) (s (pt PREV) (s (rc PRESENT) i))) (s (pt REC) k) n) t.record_in;
      }

  pub put_occ : (k : ℕ) → occ k (ring_at (on_store s (cut_put_writes s i vx vy vz d)) i) + (one k (s (rc PRESENT) i) + one k y) ≡ occ k (ring_at s i) + one k (pts s)
  put_occ k = omega (arith, occ_from (on_store s (cut_put_writes s i vx vy vz d)) i _ _ _ _ d positioned k, changed k)

  pub put_steps : ActDone {W = W} s (on_store s (cut_put_writes s i vx vy vz d)) i (cut v true false d)
  put_steps =
      record {
        kept = kept;
        sound = sound_is (on_store s (cut_put_writes s i vx vy vz d)) i _ _ _ _ d positioned s o c.known kept refl (λ k p. point_in_lem k p (ℕ_discrete k (pts s))) (o.good i c.known).owner (λ k l. omega (arith, changed k, one_else k (pts s) (λ t. omega arith)));
        points = omega arith;
        flags = refl;
        is_cut_from = refl;
        start_is = inr (record { known = c.known; same = refl; looped = λ k. (c, b.looping) });
        ring = λ started. lone_is (on_store s (cut_put_writes s i vx vy vz d)) i _ _ _ _ d positioned
            ∙ ap (λ (st : Option ℕ). tidy_at (last_of u r ∷ pts s ∷ z ∷ init_of u r) 0 st d none) (place_cut true (pts s) (s (rc START) i) (s (rc PRESENT) i) y z u r q.whole.once (started v refl))
            ∙ ap (λ (l : List ℕ). tidy (apply (λ (v : W). pts s) (cut v true false d) (record { circle = s (rc PRESENT) i ∷ l; first = b.far; start = place (s (rc START) i) (s (rc PRESENT) i ∷ l); due = d₀; why = none }))) (sym e)
            ∙ ap (λ (R : Ring ℕ). tidy (apply (λ (v : W). pts s) (cut v true false d) R)) (sym b.lone_is);
        made = refl;
      }
