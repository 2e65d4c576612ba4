-- Laws of the points reached: each once, each a point; whatever is reached is on the list, and nothing else is.
use Prim.Native.Nat.{ℕ, zero, suc, ◌+◌, ◌≤◌, ◌<◌}
use mathlib.Core.Path.{◌≡◌, refl, ap, sym, subst}
use mathlib.Core.Logic.{◌≢◌}
use mathlib.Core.Bool.{Bool, true, false, cond, not, ◌&&◌}
use mathlib.Core.List.{List, ◌∷◌}
use native.Mathlib.Omega.{arith}
use native.Mathlib.Decide.{ℕ_discrete, dec_lt}
use lib.Dec.{ltb}
use lib.ListN.{length}
use borrow.Author.Tests.{lt-ltb, le-ltb, ltb-true, ltb-false}
use Rattle.job.specs.Limits as limit
use Rattle.rings.specs.Count.{occ}
use Rattle.rings.proofs.Counting.{one_else, one_le, occ_head, pigeon}
use Rattle.rings.proofs.Members.{one_is}
use Rattle.store.specs.Named.{points_of, next_of, first_of}
use Rattle.audit.specs.Tests.{is_in, reach, reached_by}

-- ---- in a list, as a test and as a count

pub in_true : (k : ℕ) (l : List ℕ) → 0 < occ k l → is_in k l ≡ true
in_true k l h = lt-ltb 0 (occ k l) h

pub in_false : (k : ℕ) (l : List ℕ) → occ k l ≡ 0 → is_in k l ≡ false
in_false k l h = le-ltb 0 (occ k l) (omega arith)

pub true_in : (k : ℕ) (l : List ℕ) → is_in k l ≡ true → 0 < occ k l
true_in k l e = ltb-true 0 (occ k l) e

pub false_in : (k : ℕ) (l : List ℕ) → is_in k l ≡ false → occ k l ≡ 0
false_in k l e = omega (arith, ltb-false 0 (occ k l) e)

-- ---- one walk

module _ (n : ℕ → ℕ) (m : ℕ) where
  -- each once, and each a point
  pub record Fresh (l : List ℕ) : Type 0 where
    pub once : (k : ℕ) → occ k l ≤ 1
    pub below : (k : ℕ) → 0 < occ k l → k < m

  -- with the next of each that is a point, but for a
  pub record Shut (l : List ℕ) (a : ℕ) : Type 0 where
    pub next : (k : ℕ) → 0 < occ k l → n k < m → n k ≢ a → 0 < occ (n k) l

  fresh_more : (l : List ℕ) (a : ℕ) → a < m → occ a l ≡ 0 → Fresh l → Fresh (a ∷ l)
  fresh_more l a h o g = record { once = λ k. count k (ℕ_discrete k a); below = λ k p. under k p (ℕ_discrete k a) }
    where
      count : (k : ℕ) → Dec (k ≡ a) → occ k (a ∷ l) ≤ 1
      count k (yes e) = omega (arith, one_le k a, subst (λ (x : ℕ). occ x l ≡ 0) (sym e) o)
      count k (no d) = omega (arith, one_else k a (λ e. d (sym e)), g.once k)

      under : (k : ℕ) → 0 < occ k (a ∷ l) → Dec (k ≡ a) → k < m
      under k p (yes e) = omega arith
      under k p (no d) = g.below k (omega (arith, one_else k a (λ e. d (sym e))))

  shut_more : (l : List ℕ) (a : ℕ) → Shut l a → Shut (a ∷ l) (n a)
  shut_more l a g = record { next = λ k p h d. go k p h d (ℕ_discrete k a) (ℕ_discrete (n k) a) }
    where
      go : (k : ℕ) → 0 < occ k (a ∷ l) → n k < m → n k ≢ n a → Dec (k ≡ a) → Dec (n k ≡ a) → 0 < occ (n k) (a ∷ l)
      go k p h d (yes e) z = absurd (d (ap n e))
      go k p h d (no f) (yes e) = omega (arith, one_is (n k) a e)
      go k p h d (no f) (no z) = omega (arith, g.next k (omega (arith, one_else k a (λ e. f (sym e)))) h z)

  -- what a walk leaves: fresh, with every next, with what was there before, and with a if it is a point
  pub record Walked (seen : List ℕ) (a : ℕ) (l : List ℕ) : Type 0 where
    pub fresh : Fresh l
    pub shut : (k : ℕ) → 0 < occ k l → n k < m → 0 < occ (n k) l
    pub kept : (k : ℕ) → 0 < occ k seen → 0 < occ k l
    pub start : a < m → 0 < occ a l

  walk_reach : (f : ℕ) (seen : List ℕ) (a : ℕ) → Fresh seen → Shut seen a → m < f + length seen + 1 → Walked seen a (reach f n m seen a)
  unfolding reach
  walk_reach zero seen a g s h = record { fresh = g; shut = closed; kept = λ k p. p; start = begins }
    where
      -- m points are all there are
      full : a < m → occ a seen ≡ 0 → ⊥
      full l o = let r = fresh_more seen a l o g in omega (arith, pigeon m (a ∷ seen) r.once r.below)

      begins : a < m → 0 < occ a seen
      begins l = go (dec_lt 0 (occ a seen))
        where
          go : Dec (0 < occ a seen) → 0 < occ a seen
          go (yes p) = p
          go (no d) = absurd (full l (omega arith))

      closed : (k : ℕ) → 0 < occ k seen → n k < m → 0 < occ (n k) seen
      closed k p l = go (ℕ_discrete (n k) a)
        where
          go : Dec (n k ≡ a) → 0 < occ (n k) seen
          go (yes e) = subst (λ (x : ℕ). 0 < occ x seen) (sym e) (begins (omega arith))
          go (no d) = s.next k p l d
  walk_reach (suc f) seen a g s h =
      go (ltb a m) refl (is_in a seen) refl
      (λ l o. walk_reach f (a ∷ seen) (n a) (fresh_more seen a l o g) (shut_more seen a s) (omega arith))
    where
      stays : (a < m → 0 < occ a seen) → Walked seen a seen
      stays b = record { fresh = g; shut = closed; kept = λ k p. p; start = b }
        where
          closed : (k : ℕ) → 0 < occ k seen → n k < m → 0 < occ (n k) seen
          closed k p l = by (ℕ_discrete (n k) a)
            where
              by : Dec (n k ≡ a) → 0 < occ (n k) seen
              by (yes e) = subst (λ (x : ℕ). 0 < occ x seen) (sym e) (b (omega arith))
              by (no d) = s.next k p l d

      go : (x : Bool) → ltb a m ≡ x → (y : Bool) → is_in a seen ≡ y → (a < m → occ a seen ≡ 0 → Walked (a ∷ seen) (n a) (reach f n m (a ∷ seen) (n a)))
          → Walked seen a (cond (x && not y) (reach f n m (a ∷ seen) (n a)) seen)
      go false e y d r = stays (λ l. absurd (omega (arith, ltb-false a m e)))
      go true e true d r = stays (λ l. true_in a seen d)
      go true e false d r =
          let t = r (ltb-true a m e) (false_in a seen d) in
          record { fresh = t.fresh; shut = t.shut; kept = λ k p. t.kept k (omega arith); start = λ l. t.kept a (occ_head a seen) }

  -- nothing else is there: what is closed along next, with a and with what was seen before, has it all
  reach_only : (P : ℕ → Type 0) (f : ℕ) (seen : List ℕ) (a : ℕ) → ((k : ℕ) → P k → n k < m → P (n k)) → ((k : ℕ) → 0 < occ k seen → P k) → (a < m → P a) → (k : ℕ) → 0 < occ k (reach f n m seen a) → P k
  unfolding reach
  reach_only P zero seen a c s h k p = s k p
  reach_only P (suc f) seen a c s h k p =
      go (ltb a m) refl (is_in a seen) (λ l q. reach_only P f (a ∷ seen) (n a) c (λ j o. more l j o (ℕ_discrete j a)) (c a (h l)) k q) p
    where
      more : a < m → (j : ℕ) → 0 < occ j (a ∷ seen) → Dec (j ≡ a) → P j
      more l j o (yes e) = subst P (sym e) (h l)
      more l j o (no d) = s j (omega (arith, one_else j a (λ e. d (sym e))))

      go : (x : Bool) → ltb a m ≡ x → (y : Bool) → (a < m → 0 < occ k (reach f n m (a ∷ seen) (n a)) → P k) → 0 < occ k (cond (x && not y) (reach f n m (a ∷ seen) (n a)) seen) → P k
      go false e y r q = s k q
      go true e true r q = s k q
      go true e false r q = r (ltb-true a m e) q

-- ---- all walks

module _ (w : List ℕ) (few : points_of w ≤ limit.POINTS) where
  -- closed along next, with the first points of the records below i
  pub record Reached (i : ℕ) : Type 0 where
    pub fresh : Fresh (next_of w) (points_of w) (reached_by w i)
    pub shut : (k : ℕ) → 0 < occ k (reached_by w i) → next_of w k < points_of w → 0 < occ (next_of w k) (reached_by w i)
    pub starts : (j : ℕ) → j < i → first_of w j < points_of w → 0 < occ (first_of w j) (reached_by w i)

  pub reached : (i : ℕ) → Reached i
  unfolding reached_by
  reached zero =
      record {
        fresh = record { once = λ k. omega arith; below = λ k p. absurd (omega arith) };
        shut = λ k p h. absurd (omega arith);
        starts = λ j h l. absurd (omega arith);
      }
  reached (suc i) = go (reached i)
    where
      go : Reached i → Reached (suc i)
      go r =
          let t = walk_reach (next_of w) (points_of w) limit.POINTS (reached_by w i) (first_of w i) r.fresh (record { next = λ k p h d. r.shut k p h }) (omega arith) in
          record { fresh = t.fresh; shut = t.shut; starts = λ j h l. by j h l (ℕ_discrete j i) t }
        where
          by : (j : ℕ) → j < suc i → first_of w j < points_of w → Dec (j ≡ i) → Walked (next_of w) (points_of w) (reached_by w i) (first_of w i) (reach limit.POINTS (next_of w) (points_of w) (reached_by w i) (first_of w i))
              → 0 < occ (first_of w j) (reach limit.POINTS (next_of w) (points_of w) (reached_by w i) (first_of w i))
          by j h l (yes e) t = subst (λ (x : ℕ). 0 < occ (first_of w x) (reach limit.POINTS (next_of w) (points_of w) (reached_by w i) (first_of w i))) (sym e) (t.start (subst (λ (x : ℕ). first_of w x < points_of w) e l))
          by j h l (no d) t = t.kept (first_of w j) (r.starts j (omega arith) l)

-- what is closed along next, with those first points, has every reached point
pub only_reached : (w : List ℕ) (P : ℕ → Type 0) (i : ℕ) → ((k : ℕ) → P k → next_of w k < points_of w → P (next_of w k)) → ((j : ℕ) → j < i → first_of w j < points_of w → P (first_of w j)) → (k : ℕ) → 0 < occ k (reached_by w i) → P k
unfolding reached_by
only_reached w P zero c h k p = absurd (omega arith)
only_reached w P (suc i) c h k p =
    reach_only (next_of w) (points_of w) P limit.POINTS (reached_by w i) (first_of w i) c (λ j o. only_reached w P i c (λ x l. h x (omega arith)) j o) (h i (omega arith)) k p
