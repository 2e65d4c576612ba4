-- A cut, as far as the ring itself is concerned: no point is put in.
use Prim.Native.Nat.{ℕ, suc, ◌+◌, ◌<◌}
use mathlib.Core.Path.{◌≡◌, refl, ap, ◌∙◌, sym, subst}
use mathlib.Core.Logic.{inl, inr}
use mathlib.Core.Bool.{false}
use mathlib.Core.List.{List, ◌∷◌}
use mathlib.Core.Option.{none}
use native.Mathlib.Omega.{arith}
use lib.ListN.{length}
use Rattle.rings.proofs.Counting.{occ_last, occ_head, occ_last_of, all_in}
use Rattle.rings.proofs.Linking.{prev_is, linked_cut}
use Rattle.rings.proofs.Placing.{place_head, place_cut, not_last, not_first}
use Rattle.rings.specs.Circle.{last_of, init_of, cut_start}
use Rattle.rings.specs.Count.{one, occ}
use Rattle.rings.specs.Place.{place}
use Rattle.rings.specs.Progress.{Ring, Due, tidy}
use Rattle.rings.specs.Whole.{Whole}
use Rattle.lone.specs.Act.{cut, apply}
use Rattle.store.proofs.Keeping.{Kept, Local, local_kept}
use Rattle.store.proofs.Storing.{unwritten, hit, miss}
use Rattle.store.specs.Field.{pt, rc, NEXT, PREV, PRESENT, START}
use Rattle.store.specs.Sound.{pts, ring_at, Closed}
use Rattle.store.specs.Good.{PointIn, Sound}
use Rattle.store.specs.Words.{Store}
use Rattle.store.specs.Stores.{on_store}
use Rattle.acts.proofs.Positions.{Positioned, Loop, lone_is, occ_from, sound_is}
use Rattle.acts.proofs.Representing.{ActDone}
use Rattle.acts.specs.Writes.{cut_writes}

-- a circle of four at least, and its links about the present point
pub record Four (s : Store) (i : ℕ) (y z u : ℕ) (r : List ℕ) : Type 0 where
  pub whole : Whole (s (pt NEXT)) (s (pt PREV)) (pts s) (s (rc PRESENT) i ∷ y ∷ z ∷ u ∷ r)
  pub occs : (k : ℕ) → occ k (ring_at s i) ≡ occ k (s (rc PRESENT) i ∷ y ∷ z ∷ u ∷ r)
  pub next_y : s (pt NEXT) (s (rc PRESENT) i) ≡ y
  pub next_z : s (pt NEXT) (s (pt NEXT) (s (rc PRESENT) i)) ≡ z
  pub prev_p : s (pt PREV) (s (rc PRESENT) i) ≡ last_of u r

pub four : (s : Store) (i : ℕ) (d : Due) (b : Loop s i (s (rc PRESENT) i) d) (y z u : ℕ) (r : List ℕ) → b.others ≡ y ∷ z ∷ u ∷ r → Four s i y z u r
four s i d b y z u r e =
    let w : Whole (s (pt NEXT)) (s (pt PREV)) (pts s) (s (rc PRESENT) i ∷ y ∷ z ∷ u ∷ r) = subst (λ (l : List ℕ). Whole (s (pt NEXT)) (s (pt PREV)) (pts s) (s (rc PRESENT) i ∷ l)) e b.whole in
    record {
      whole = w;
      occs = λ k. b.occs k ∙ ap (λ (l : List ℕ). occ k (s (rc PRESENT) i ∷ l)) e;
      next_y = w.linked.0;
      next_z = ap (s (pt NEXT)) w.linked.0 ∙ w.linked.2.0;
      prev_p = prev_is (s (pt NEXT)) (s (pt PREV)) (s (rc PRESENT) i) (y ∷ z ∷ u ∷ r) w.linked;
    }

module _ (W : Type 0) (v : W) (s : Store) (o : Sound s) (i : ℕ) (c : Closed s i) (d₀ d : Due) (b : Loop s i (s (rc PRESENT) i) d₀)
    (y z u : ℕ) (r : List ℕ) (e : b.others ≡ y ∷ z ∷ u ∷ r) (q : Four s i y z u r) where
  local : Local s (on_store s (cut_writes s i d)) i
  local =
      record {
        points_up = omega arith;
        records_up = omega arith;
        records = λ f j l n. unwritten s (cut_writes s i d) (rc f) j (inl refl, (inl refl, (inr n, (inr n, (inr n, tt)))));
        xs = λ k l. refl;
        ys = λ k l. refl;
        zs = λ k l. refl;
        nexts = λ k l h. miss k (s (pt PREV) (s (rc PRESENT) i)) (s (pt NEXT) (s (pt NEXT) (s (rc PRESENT) i))) (s (pt NEXT) k)
            (λ t. omega (arith, h, q.occs k, subst (λ (n : ℕ). 0 < occ n (u ∷ r)) (sym (t ∙ q.prev_p)) (occ_last_of u r)));
        prevs = λ k l h. miss k (s (pt NEXT) (s (pt NEXT) (s (rc PRESENT) i))) (s (pt PREV) (s (rc PRESENT) i)) (s (pt PREV) k)
            (λ t. omega (arith, h, q.occs k, subst (λ (n : ℕ). 0 < occ n (z ∷ u ∷ r)) (sym (t ∙ q.next_z)) (occ_head z (u ∷ r))));
        recordings = λ k l h. refl;
      }

  kept : Kept s (on_store s (cut_writes s i d)) i
  kept = local_kept s (on_store s (cut_writes s i d)) o i c.known local

  fewer : (k : ℕ) → occ k (last_of u r ∷ z ∷ init_of u r) + (one k (s (rc PRESENT) i) + one k y) ≡ occ k (ring_at s i)
  fewer k = omega (arith, q.occs k, occ_last k u r)

  whole' : Whole (on_store s (cut_writes s i d) (pt NEXT)) (on_store s (cut_writes s i d) (pt PREV)) (pts s) (last_of u r ∷ z ∷ init_of u r)
  whole' =
      record {
        linked = linked_cut (s (pt NEXT)) (s (pt PREV)) (on_store s (cut_writes s i d) (pt NEXT)) (on_store s (cut_writes s i d) (pt PREV)) (s (rc PRESENT) i) y z u r 0 q.whole.linked
            (all_in (λ k. on_store s (cut_writes s i d) (pt NEXT) k ≡ s (pt NEXT) k) (z ∷ init_of u r) (λ k p. miss k _ _ _ (λ t. not_last z u r k (omega (arith, q.whole.once (last_of u r))) p (t ∙ q.prev_p))))
            (all_in (λ k. on_store s (cut_writes s i d) (pt PREV) k ≡ s (pt PREV) k) (u ∷ r) (λ k p. miss k _ _ _ (λ t. not_first z (u ∷ r) k (omega (arith, q.whole.once z)) p (t ∙ q.next_z))))
            (ap (on_store s (cut_writes s i d) (pt NEXT)) (sym q.prev_p) ∙ hit (s (pt PREV) (s (rc PRESENT) i)) (s (pt NEXT) (s (pt NEXT) (s (rc PRESENT) i))) (s (pt NEXT) (s (pt PREV) (s (rc PRESENT) i))) ∙ q.next_z)
            (ap (on_store s (cut_writes s i d) (pt PREV)) (sym q.next_z) ∙ hit (s (pt NEXT) (s (pt NEXT) (s (rc PRESENT) i))) (s (pt PREV) (s (rc PRESENT) i)) (s (pt PREV) (s (pt NEXT) (s (pt NEXT) (s (rc PRESENT) i)))) ∙ q.prev_p);
        once = λ k. omega (arith, q.whole.once k, q.occs k, fewer k);
        below = λ k p. q.whole.below k (omega (arith, q.occs k, fewer k));
      }

  positioned : Positioned (on_store s (cut_writes s i d)) i (last_of u r) (z ∷ init_of u r) 0 (cut_start false (length (s (rc PRESENT) i ∷ y ∷ z ∷ u ∷ r)) (place (s (rc START) i) (s (rc PRESENT) i ∷ y ∷ z ∷ u ∷ r))) d
  positioned =
      record {
        few = o.few_points;
        present_is = hit i _ _ ∙ q.prev_p;
        mark_is = hit i _ _;
        whole = whole';
        first_at = ap (λ (n : ℕ). place n (last_of u r ∷ z ∷ init_of u r)) (hit i _ _ ∙ q.prev_p) ∙ place_head (last_of u r) (z ∷ init_of u r);
        start_at = place_cut false (suc (s (rc START) i)) (s (rc START) i) (s (rc PRESENT) i) y z u r q.whole.once (λ t. omega arith);
      }

  pub cut_occ : (k : ℕ) → occ k (ring_at (on_store s (cut_writes s i d)) i) + (one k (s (rc PRESENT) i) + one k y) ≡ occ k (ring_at s i)
  cut_occ k = omega (arith, occ_from (on_store s (cut_writes s i d)) i _ _ _ _ d positioned k, fewer k)

  pub cut_steps : ActDone {W = W} s (on_store s (cut_writes s i d)) i (cut v false false d)
  cut_steps =
      record {
        kept = kept;
        sound = sound_is (on_store s (cut_writes s i d)) i _ _ _ _ d positioned s o c.known kept refl (λ k p. point_in_lem k ((o.good i c.known).points_in_lem k (omega (arith, fewer k)))) (o.good i c.known).owner (λ k l. omega (arith, fewer k));
        points = omega arith;
        flags = refl;
        is_cut_from = refl;
        start_is = inr (record { known = c.known; same = refl; looped = λ k. (c, b.looping) });
        ring = λ h. lone_is (on_store s (cut_writes s i d)) i _ _ _ _ d positioned
            ∙ ap (λ (l : List ℕ). tidy (apply (λ (v : W). pts s) (cut v false false d) (record { circle = s (rc PRESENT) i ∷ l; first = b.far; start = place (s (rc START) i) (s (rc PRESENT) i ∷ l); due = d₀; why = none }))) (sym e)
            ∙ ap (λ (R : Ring ℕ). tidy (apply (λ (v : W). pts s) (cut v false false d) R)) (sym b.lone_is);
        made = refl;
      }
    where
      point_in_lem : (k : ℕ) → PointIn s k → PointIn (on_store s (cut_writes s i d)) k
      point_in_lem k t = record { below = t.below; x_in = t.x_in; y_in = t.y_in; record_in = t.record_in }
