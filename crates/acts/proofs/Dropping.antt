-- The act that drops the present point.
use Prim.Native.Nat.{ℕ, suc, ◌<◌}
use mathlib.Core.Path.{◌≡◌, refl, ap, ◌∙◌, sym, subst}
use mathlib.Core.Logic.{inl, inr}
use mathlib.Core.Bool.{cond}
use mathlib.Core.List.{List, ◌∷◌}
use mathlib.Core.Option.{none, some}
use native.Mathlib.Omega.{arith}
use native.Mathlib.Decide.{ℕ_discrete}
use lib.Dec.{eqb}
use lib.ListN.{length}
use borrow.Author.Tests.{eq-eqb, ne_eqb}
use Rattle.rings.proofs.Counting.{one_here, occ_head, occ_last_of, all_in}
use Rattle.rings.proofs.Linking.{prev_is, linked_drop}
use Rattle.rings.proofs.Placing.{place_head, place_drop, place_last, not_last, not_first}
use Rattle.rings.specs.Circle.{omap, ahead, last_of, init_of}
use Rattle.rings.specs.Count.{occ}
use Rattle.rings.specs.Place.{place}
use Rattle.rings.specs.Progress.{Ring, tidy, removal}
use Rattle.rings.specs.Whole.{Whole}
use Rattle.lone.specs.Act.{drop_point, apply}
use Rattle.store.proofs.Keeping.{Kept, Local, local_kept}
use Rattle.store.proofs.Storing.{unwritten, hit, miss}
use Rattle.store.specs.Field.{pt, rc, NEXT, PREV, FIRST, MARK, PRESENT, START}
use Rattle.store.specs.Sound.{pts, ring_at, due_at, Closed}
use Rattle.store.specs.Good.{PointIn, Sound}
use Rattle.store.specs.Words.{Store}
use Rattle.store.specs.Stores.{on_store}
use Rattle.acts.proofs.Positions.{Positioned, Loop, mark_due, lone_is, sound_is}
use Rattle.acts.proofs.Representing.{ActDone}
use Rattle.acts.specs.Writes.{drop_writes}

module _ (W : Type 0) (s : Store) (o : Sound s) (i : ℕ) (c : Closed s i) (m : due_at s i ≡ removal) (b : Loop s i (s (rc PRESENT) i) removal) where
  -- at least two points come after it
  module _ (z w : ℕ) (r : List ℕ) (e : b.others ≡ z ∷ w ∷ r) where
    whole₀ : Whole (s (pt NEXT)) (s (pt PREV)) (pts s) (s (rc PRESENT) i ∷ z ∷ w ∷ r)
    whole₀ = subst (λ (l : List ℕ). Whole (s (pt NEXT)) (s (pt PREV)) (pts s) (s (rc PRESENT) i ∷ l)) e b.whole

    next_z : s (pt NEXT) (s (rc PRESENT) i) ≡ z
    next_z = whole₀.linked.0

    prev_p : s (pt PREV) (s (rc PRESENT) i) ≡ last_of w r
    prev_p = prev_is (s (pt NEXT)) (s (pt PREV)) (s (rc PRESENT) i) (z ∷ w ∷ r) whole₀.linked

    occs : (k : ℕ) → occ k (ring_at s i) ≡ occ k (s (rc PRESENT) i ∷ z ∷ w ∷ r)
    occs k = b.occs k ∙ ap (λ (l : List ℕ). occ k (s (rc PRESENT) i ∷ l)) e

    local : Local s (on_store s (drop_writes s i)) i
    local =
        record {
          points_up = omega arith;
          records_up = omega arith;
          records = λ f j l d. unwritten s (drop_writes s i) (rc f) j (inr d, (inl refl, (inl refl, (inr d, (inr d, tt)))));
          xs = λ k l. refl;
          ys = λ k l. refl;
          zs = λ k l. refl;
          nexts = λ k l h. miss k (s (pt PREV) (s (rc PRESENT) i)) (s (pt NEXT) (s (rc PRESENT) i)) (s (pt NEXT) k) (λ q. let q' : k ≡ last_of w r = q ∙ prev_p in omega (arith, h, occs k, subst (λ (n : ℕ). 0 < occ n (w ∷ r)) (sym q') (occ_last_of w r)));
          prevs = λ k l h. miss k (s (pt NEXT) (s (rc PRESENT) i)) (s (pt PREV) (s (rc PRESENT) i)) (s (pt PREV) k) (λ q. let q' : k ≡ z = q ∙ next_z in omega (arith, h, occs k, subst (λ (n : ℕ). 0 < occ n (z ∷ w ∷ r)) (sym q') (occ_head z (w ∷ r))));
          recordings = λ k l h. refl;
        }

    kept : Kept s (on_store s (drop_writes s i)) i
    kept = local_kept s (on_store s (drop_writes s i)) o i c.known local

    whole' : Whole (on_store s (drop_writes s i) (pt NEXT)) (on_store s (drop_writes s i) (pt PREV)) (pts s) (z ∷ w ∷ r)
    whole' =
        record {
          linked = linked_drop (s (pt NEXT)) (s (pt PREV)) (on_store s (drop_writes s i) (pt NEXT)) (on_store s (drop_writes s i) (pt PREV)) (s (rc PRESENT) i) z w r whole₀.linked
              (all_in (λ k. on_store s (drop_writes s i) (pt NEXT) k ≡ s (pt NEXT) k) (z ∷ init_of w r) (λ k p. miss k _ _ _ (λ q. not_last z w r k (omega (arith, whole₀.once (last_of w r))) p (q ∙ prev_p))))
              (all_in (λ k. on_store s (drop_writes s i) (pt PREV) k ≡ s (pt PREV) k) (w ∷ r) (λ k p. miss k _ _ _ (λ q. not_first z (w ∷ r) k (omega (arith, whole₀.once z)) p (q ∙ next_z))))
              (ap (on_store s (drop_writes s i) (pt NEXT)) (sym prev_p) ∙ hit (s (pt PREV) (s (rc PRESENT) i)) (s (pt NEXT) (s (rc PRESENT) i)) (s (pt NEXT) (s (pt PREV) (s (rc PRESENT) i))) ∙ next_z)
              (ap (on_store s (drop_writes s i) (pt PREV)) (sym next_z) ∙ hit (s (pt NEXT) (s (rc PRESENT) i)) (s (pt PREV) (s (rc PRESENT) i)) (s (pt PREV) (s (pt NEXT) (s (rc PRESENT) i))) ∙ prev_p);
          once = λ k. omega (arith, whole₀.once k);
          below = λ k p. whole₀.below k (omega arith);
        }

    first_at : place (cond (eqb (s (rc FIRST) i) (s (rc PRESENT) i)) (s (pt PREV) (s (rc PRESENT) i)) (s (rc FIRST) i)) (z ∷ w ∷ r) ≡ some (ahead (length (z ∷ w ∷ r)) b.far)
    first_at = go (ℕ_discrete (s (rc FIRST) i) (s (rc PRESENT) i))
      where
        at₀ : place (s (rc FIRST) i) (s (rc PRESENT) i ∷ z ∷ w ∷ r) ≡ some b.far
        at₀ = ap (λ (l : List ℕ). place (s (rc FIRST) i) (s (rc PRESENT) i ∷ l)) (sym e) ∙ b.first_at

        go : Dec (s (rc FIRST) i ≡ s (rc PRESENT) i) → place (cond (eqb (s (rc FIRST) i) (s (rc PRESENT) i)) (s (pt PREV) (s (rc PRESENT) i)) (s (rc FIRST) i)) (z ∷ w ∷ r) ≡ some (ahead (length (z ∷ w ∷ r)) b.far)
        go (yes q) =
            let t : some 0 ≡ some b.far = sym (place_head (s (rc PRESENT) i) (z ∷ w ∷ r)) ∙ ap (λ (n : ℕ). place n (s (rc PRESENT) i ∷ z ∷ w ∷ r)) (sym q) ∙ at₀ in
            let t' : 0 ≡ b.far = cc in
            let p : cond (eqb (s (rc FIRST) i) (s (rc PRESENT) i)) (s (pt PREV) (s (rc PRESENT) i)) (s (rc FIRST) i) ≡ last_of z (w ∷ r) = rw (eq-eqb (s (rc FIRST) i) (s (rc PRESENT) i) q) prev_p in
            ap (λ (n : ℕ). place n (z ∷ w ∷ r)) p ∙ place_last z (w ∷ r) (omega (arith, whole₀.once (last_of w r))) ∙ ap (λ (n : ℕ). some (ahead (suc (suc (length r))) n)) t'
        go (no d) =
            let p : cond (eqb (s (rc FIRST) i) (s (rc PRESENT) i)) (s (pt PREV) (s (rc PRESENT) i)) (s (rc FIRST) i) ≡ s (rc FIRST) i = rw (ne_eqb (s (rc FIRST) i) (s (rc PRESENT) i) d) refl in
            ap (λ (n : ℕ). place n (z ∷ w ∷ r)) p ∙ (sym (place_drop (s (rc FIRST) i) (s (rc PRESENT) i) (z ∷ w ∷ r) (λ q. d (sym q))) ∙ ap (omap (ahead (length (z ∷ w ∷ r)))) at₀)

    positioned : Positioned (on_store s (drop_writes s i)) i z (w ∷ r) (ahead (length (z ∷ w ∷ r)) b.far) (some 0) removal
    positioned =
        record {
          few = o.few_points;
          present_is = hit i _ _ ∙ next_z;
          mark_is = mark_due (s (rc MARK) i) removal ((o.good i c.known).meant c) m;
          whole = whole';
          first_at = ap (λ (n : ℕ). place n (z ∷ w ∷ r)) (hit i _ _) ∙ first_at;
          start_at = ap (λ (n : ℕ). place n (z ∷ w ∷ r)) (hit i _ _ ∙ next_z) ∙ place_head z (w ∷ r);
        }

    pub drop_steps : ActDone {W = W} s (on_store s (drop_writes s i)) i drop_point
    drop_steps =
        record {
          kept = kept;
          sound = sound_is (on_store s (drop_writes s i)) i z (w ∷ r) _ _ removal positioned s o c.known kept refl (λ k p. point_in_lem k ((o.good i c.known).points_in_lem k (omega (arith, occs k)))) (o.good i c.known).owner (λ k l. omega (arith, occs k));
          points = omega arith;
          flags = refl;
          is_cut_from = refl;
          start_is = inl (rw (hit i (s (pt NEXT) (s (rc PRESENT) i)) (s (rc START) i), next_z) (whole₀.below z (omega (arith, one_here z))));
          ring = λ h. lone_is (on_store s (drop_writes s i)) i z (w ∷ r) _ _ removal positioned
              ∙ ap (λ (l : List ℕ). tidy (apply (λ (v : W). pts s) drop_point (record { circle = s (rc PRESENT) i ∷ l; first = b.far; start = place (s (rc START) i) (s (rc PRESENT) i ∷ l); due = removal; why = none }))) (sym e)
              ∙ ap (λ (R : Ring ℕ). tidy (apply (λ (v : W). pts s) drop_point R)) (sym b.lone_is);
          made = refl;
        }
      where
        point_in_lem : (k : ℕ) → PointIn s k → PointIn (on_store s (drop_writes s i)) k
        point_in_lem k t = record { below = t.below; x_in = t.x_in; y_in = t.y_in; record_in = t.record_in }
