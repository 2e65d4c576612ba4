-- The act that puts a new point in before the present one.
use Prim.Native.Nat.{ℕ, suc, ◌+◌, ◌≤◌, ◌<◌}
use mathlib.Core.Path.{◌≡◌, refl, ap, ◌∙◌, sym, subst}
use mathlib.Core.Logic.{◌≢◌, inl, inr}
use mathlib.Core.Bool.{cond}
use mathlib.Core.List.{List, [], ◌∷◌, ◌++◌}
use mathlib.Core.Option.{Option, none}
use native.Mathlib.Omega.{arith}
use native.Mathlib.Decide.{ℕ_discrete}
use lib.Dec.{eqb}
use Rattle.rings.proofs.Counting.{sum_by_append, one_here, occ_last, one_else, occ_head, occ_last_of, all_in}
use Rattle.rings.proofs.Linking.{prev_is, linked_double}
use Rattle.rings.proofs.Placing.{place_before, not_last, not_first}
use Rattle.rings.specs.Circle.{last_of, init_of}
use Rattle.rings.specs.Count.{one, occ}
use Rattle.rings.specs.Place.{place}
use Rattle.rings.specs.Progress.{Ring, Due, tidy, tidy_at}
use Rattle.rings.specs.Whole.{Whole}
use Rattle.lone.specs.Act.{double, apply}
use Rattle.store.proofs.Keeping.{Kept, Local, local_kept}
use Rattle.store.proofs.Storing.{unwritten, hit, miss}
use Rattle.store.specs.Field.{pt, rc, X, Y, Z, NEXT, PREV, REC, FIRST, PRESENT, START}
use Rattle.store.specs.Sound.{pts, ring_at, Closed}
use Rattle.store.specs.Good.{PointIn, Sound}
use Rattle.store.specs.Words.{Store}
use Rattle.store.specs.Stores.{on_store}
use Rattle.acts.proofs.Positions.{Positioned, Loop, place_on, lone_is, sound_is}
use Rattle.acts.proofs.Representing.{ActDone}
use Rattle.acts.specs.Writes.{double_writes}

-- a ring's points and one fresh one
pub once_snoc : (m : ℕ) (c : List ℕ) → ((k : ℕ) → occ k c ≤ 1) → ((k : ℕ) → 0 < occ k c → k < m) → (k : ℕ) → occ k c + one k m ≤ 1
once_snoc m c o b k = go (ℕ_discrete m k)
  where
    go : Dec (m ≡ k) → occ k c + one k m ≤ 1
    go (yes e) = fresh (ℕ_discrete (occ k c) 0)
      where
        fresh : Dec (occ k c ≡ 0) → occ k c + one k m ≤ 1
        fresh (yes z) = rw (z, subst (λ (n : ℕ). one k n ≡ 1) (sym e) (one_here k)) (omega arith)
        fresh (no z) = absurd (omega (arith, b k (omega arith)))
    go (no d) = omega (arith, o k, one_else k m d)

module _ (W : Type 0) (v : W) (s : Store) (o : Sound s) (i : ℕ) (c : Closed s i) (d₀ d : Due) (b : Loop s i (s (rc PRESENT) i) d₀)
    (vx vy vz : ℕ) (hx : vx ≤ 2097152) (hy : vy ≤ 2097152) (room : pts s < 2048) where
  module _ (y : ℕ) (r : List ℕ) (e : b.others ≡ y ∷ r) where
    whole₀ : Whole (s (pt NEXT)) (s (pt PREV)) (pts s) (s (rc PRESENT) i ∷ y ∷ r)
    whole₀ = subst (λ (l : List ℕ). Whole (s (pt NEXT)) (s (pt PREV)) (pts s) (s (rc PRESENT) i ∷ l)) e b.whole

    prev_p : s (pt PREV) (s (rc PRESENT) i) ≡ last_of y r
    prev_p = prev_is (s (pt NEXT)) (s (pt PREV)) (s (rc PRESENT) i) (y ∷ r) whole₀.linked

    occs : (k : ℕ) → occ k (ring_at s i) ≡ occ k (s (rc PRESENT) i ∷ y ∷ r)
    occs k = b.occs k ∙ ap (λ (l : List ℕ). occ k (s (rc PRESENT) i ∷ l)) e

    x_in : s (rc PRESENT) i < pts s
    x_in = whole₀.below (s (rc PRESENT) i) (occ_head (s (rc PRESENT) i) (y ∷ r))

    p_in : s (pt PREV) (s (rc PRESENT) i) < pts s
    p_in = rw prev_p (whole₀.below (last_of y r) (omega (arith, occ_last_of y r)))

    -- what the links are after it
    next_else : (k : ℕ) → k < pts s → k ≢ s (pt PREV) (s (rc PRESENT) i) → on_store s (double_writes s i vx vy vz d) (pt NEXT) k ≡ s (pt NEXT) k
    next_else k l n = unwritten s (double_writes s i vx vy vz d) (pt NEXT) k (inl refl, (inl refl, (inl refl, (inl refl, (inl refl, (inr (λ q. omega arith), (inl refl, (inr n, (inl refl, (inl refl, tt))))))))))

    prev_else : (k : ℕ) → k < pts s → k ≢ s (rc PRESENT) i → on_store s (double_writes s i vx vy vz d) (pt PREV) k ≡ s (pt PREV) k
    prev_else k l n = unwritten s (double_writes s i vx vy vz d) (pt PREV) k (inl refl, (inl refl, (inl refl, (inl refl, (inl refl, (inl refl, (inr (λ q. omega arith), (inl refl, (inr n, (inl refl, tt))))))))))

    next_new : on_store s (double_writes s i vx vy vz d) (pt NEXT) (pts s) ≡ s (rc PRESENT) i
    next_new = miss (pts s) (s (pt PREV) (s (rc PRESENT) i)) (pts s) (cond (eqb (pts s) (pts s)) (s (rc PRESENT) i) (s (pt NEXT) (pts s))) (λ q. omega (arith, p_in)) ∙ hit (pts s) (s (rc PRESENT) i) (s (pt NEXT) (pts s))

    prev_new : on_store s (double_writes s i vx vy vz d) (pt PREV) (pts s) ≡ s (pt PREV) (s (rc PRESENT) i)
    prev_new = miss (pts s) (s (rc PRESENT) i) (pts s) (cond (eqb (pts s) (pts s)) (s (pt PREV) (s (rc PRESENT) i)) (s (pt PREV) (pts s))) (λ q. omega (arith, x_in)) ∙ hit (pts s) (s (pt PREV) (s (rc PRESENT) i)) (s (pt PREV) (pts s))

    local : Local s (on_store s (double_writes s i vx vy vz d)) i
    local =
        record {
          points_up = omega arith;
          records_up = omega arith;
          records = λ f j l n. unwritten s (double_writes s i vx vy vz d) (rc f) j (inl refl, (inl refl, (inl refl, (inl refl, (inl refl, (inl refl, (inl refl, (inl refl, (inl refl, (inr n, tt))))))))));
          xs = λ k l. miss k (pts s) vx (s (pt X) k) (λ q. omega arith);
          ys = λ k l. miss k (pts s) vy (s (pt Y) k) (λ q. omega arith);
          zs = λ k l. miss k (pts s) vz (s (pt Z) k) (λ q. omega arith);
          nexts = λ k l h. next_else k l (λ q. let q' : k ≡ last_of y r = q ∙ prev_p in omega (arith, h, occs k, subst (λ (n : ℕ). 0 < occ n (y ∷ r)) (sym q') (occ_last_of y r)));
          prevs = λ k l h. prev_else k l (λ q. omega (arith, h, occs k, subst (λ (n : ℕ). 0 < occ n (s (rc PRESENT) i ∷ y ∷ r)) (sym q) (occ_head (s (rc PRESENT) i) (y ∷ r))));
          recordings = λ k l h. miss k (pts s) (s (pt REC) (s (rc PRESENT) i)) (s (pt REC) k) (λ q. omega arith);
        }

    kept : Kept s (on_store s (double_writes s i vx vy vz d)) i
    kept = local_kept s (on_store s (double_writes s i vx vy vz d)) o i c.known local

    grown : (k : ℕ) → occ k (s (rc PRESENT) i ∷ y ∷ r ++ (pts s ∷ [])) ≡ occ k (s (rc PRESENT) i ∷ y ∷ r) + one k (pts s)
    grown k = omega (arith, sum_by_append (one k) (s (rc PRESENT) i ∷ y ∷ r) (pts s ∷ []))

    split_in : (k : ℕ) → 0 < occ k (s (rc PRESENT) i ∷ y ∷ r ++ (pts s ∷ [])) → k ≢ pts s → 0 < occ k (s (rc PRESENT) i ∷ y ∷ r)
    split_in k p n = omega (arith, grown k, one_else k (pts s) (λ q. n (sym q)))

    whole' : Whole (on_store s (double_writes s i vx vy vz d) (pt NEXT)) (on_store s (double_writes s i vx vy vz d) (pt PREV)) (suc (pts s)) (s (rc PRESENT) i ∷ y ∷ r ++ (pts s ∷ []))
    whole' =
        record {
          linked = linked_double (s (pt NEXT)) (s (pt PREV)) (on_store s (double_writes s i vx vy vz d) (pt NEXT)) (on_store s (double_writes s i vx vy vz d) (pt PREV)) (s (rc PRESENT) i) y r (pts s) whole₀.linked
              (all_in (λ k. on_store s (double_writes s i vx vy vz d) (pt NEXT) k ≡ s (pt NEXT) k) (s (rc PRESENT) i ∷ init_of y r)
              (λ k p. next_else k (whole₀.below k (omega (arith, occ_last k y r))) (λ q. not_last (s (rc PRESENT) i) y r k (whole₀.once (last_of y r)) p (q ∙ prev_p))))
              (all_in (λ k. on_store s (double_writes s i vx vy vz d) (pt PREV) k ≡ s (pt PREV) k) (y ∷ r)
              (λ k p. prev_else k (whole₀.below k (omega arith)) (not_first (s (rc PRESENT) i) (y ∷ r) k (whole₀.once (s (rc PRESENT) i)) p)))
              (ap (on_store s (double_writes s i vx vy vz d) (pt NEXT)) (sym prev_p) ∙ hit (s (pt PREV) (s (rc PRESENT) i)) (pts s) _)
              next_new
              (hit (s (rc PRESENT) i) (pts s) _)
              (prev_new ∙ prev_p);
          once = λ k. omega (arith, grown k, once_snoc (pts s) (s (rc PRESENT) i ∷ y ∷ r) whole₀.once whole₀.below k);
          below = λ k p. low k p (ℕ_discrete k (pts s));
        }
      where
        low : (k : ℕ) → 0 < occ k (s (rc PRESENT) i ∷ y ∷ r ++ (pts s ∷ [])) → Dec (k ≡ pts s) → k < suc (pts s)
        low k p (yes q) = omega arith
        low k p (no n) = omega (arith, whole₀.below k (split_in k p n))

    aside : (t : ℕ) → t ≢ pts s → place t (s (rc PRESENT) i ∷ y ∷ r ++ (pts s ∷ [])) ≡ place t (s (rc PRESENT) i ∷ b.others)
    aside t n = place_before t (s (rc PRESENT) i ∷ y ∷ r) (pts s ∷ []) (omega (arith, one_else t (pts s) (λ q. n (sym q)))) ∙ ap (λ (m : List ℕ). place t (s (rc PRESENT) i ∷ m)) (sym e)

    first_low : s (rc FIRST) i < pts s
    first_low = b.whole.below (s (rc FIRST) i) (place_on (s (rc FIRST) i) b.far (s (rc PRESENT) i ∷ b.others) b.first_at)

    positioned : Positioned (on_store s (double_writes s i vx vy vz d)) i (s (rc PRESENT) i) (y ∷ r ++ (pts s ∷ [])) b.far (place (s (rc START) i) (s (rc PRESENT) i ∷ y ∷ r ++ (pts s ∷ []))) d
    positioned =
        record {
          few = omega arith;
          present_is = refl;
          mark_is = hit i _ _;
          whole = whole';
          first_at = aside (s (rc FIRST) i) (λ q. omega (arith, first_low)) ∙ b.first_at;
          start_at = refl;
        }

    point_in_lem : (k : ℕ) → 0 < occ k (s (rc PRESENT) i ∷ y ∷ r ++ (pts s ∷ [])) → Dec (k ≡ pts s) → PointIn (on_store s (double_writes s i vx vy vz d)) k
    point_in_lem k p (yes q) =
        subst (PointIn (on_store s (double_writes s i vx vy vz d))) (sym q)
        (record {
          below = omega arith;
          x_in = rw (hit (pts s) vx (s (pt X) (pts s))) hx;
          y_in = rw (hit (pts s) vy (s (pt Y) (pts s))) hy;
          record_in = rw (hit (pts s) (s (pt REC) (s (rc PRESENT) i)) (s (pt REC) (pts s))) ((o.good i c.known).points_in_lem (s (rc PRESENT) i) (omega (arith, occs (s (rc PRESENT) i), occ_head (s (rc PRESENT) i) (y ∷ r)))).record_in;
        })
    point_in_lem k p (no n) =
        let t : PointIn s k = (o.good i c.known).points_in_lem k (omega (arith, occs k, split_in k p n)) in
        record {
          below = omega (arith, t.below);
          x_in = rw (miss k (pts s) vx (s (pt X) k) n) t.x_in;
          y_in = rw (miss k (pts s) vy (s (pt Y) k) n) t.y_in;
          record_in = rw (miss k (pts s) (s (pt REC) (s (rc PRESENT) i)) (s (pt REC) k) n) t.record_in;
        }

    pub double_steps : ActDone {W = W} s (on_store s (double_writes s i vx vy vz d)) i (double v d)
    double_steps =
        record {
          kept = kept;
          sound = sound_is (on_store s (double_writes s i vx vy vz d)) i _ _ _ _ d positioned s o c.known kept refl (λ k p. point_in_lem k p (ℕ_discrete k (pts s))) (o.good i c.known).owner (λ k l. omega (arith, occs k, grown k, one_else k (pts s) (λ q. omega arith)));
          points = omega arith;
          flags = refl;
          is_cut_from = refl;
          start_is = inr (record { known = c.known; same = refl; looped = λ k. (c, b.looping) });
          ring = λ started. lone_is (on_store s (double_writes s i vx vy vz d)) i _ _ _ _ d positioned
              ∙ ap (λ (st : Option ℕ). tidy_at (s (rc PRESENT) i ∷ y ∷ r ++ (pts s ∷ [])) b.far st d none) (aside (s (rc START) i) (started v refl))
              ∙ ap (λ (l : List ℕ). tidy (apply (λ (v : W). pts s) (double v d) (record { circle = s (rc PRESENT) i ∷ l; first = b.far; start = place (s (rc START) i) (s (rc PRESENT) i ∷ b.others); due = d₀; why = none }))) (sym e)
              ∙ ap (λ (R : Ring ℕ). tidy (apply (λ (v : W). pts s) (double v d) R)) (sym b.lone_is);
          made = refl;
        }
