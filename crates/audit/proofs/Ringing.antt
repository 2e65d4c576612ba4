-- Where each reached point's next is a point whose prev is that one, every reached point is on a whole ring of reached points.
use Prim.Native.Nat.{ℕ, ◌<◌, ◌≤◌}
use mathlib.Core.Path.{◌≡◌, ap, ◌∙◌, sym, subst}
use mathlib.Core.Bool.{cond}
use mathlib.Core.List.{List, [], ◌∷◌, ◌++◌}
use native.Mathlib.Omega.{arith}
use native.Mathlib.Decide.{ℕ_discrete, dec_lt}
use Rattle.job.specs.Limits as limit
use Rattle.rings.specs.Count.{occ}
use Rattle.rings.specs.Links.{Seg}
use Rattle.rings.specs.Relink.{Mutual}
use Rattle.rings.specs.Whole.{Whole}
use Rattle.rings.proofs.Counting.{one_here, one_else}
use Rattle.rings.proofs.Members.{whole_kept}
use Rattle.rings.proofs.Orbits.{Orbit, orbit}
use Rattle.store.specs.Named.{points_of, records_of, next_of, prev_of}
use Rattle.audit.specs.Tests.{is_in, reached_by}
use Rattle.audit.proofs.Reaching.{Reached, reached, in_true, in_false}

-- what holds of the first of a ring, and with each point of its next, holds of all
pub along : (n p : ℕ → ℕ) (m : ℕ) (P : ℕ → Type 0) → ((k : ℕ) → P k → n k < m → P (n k)) → (a : ℕ) (l : List ℕ) (b : ℕ) → Seg n p (a ∷ l ++ (b ∷ [])) → ((k : ℕ) → 0 < occ k (a ∷ l) → k < m) → P a → (k : ℕ) → 0 < occ k (a ∷ l) → P k
along n p m P c a [] b s u h k o = go (ℕ_discrete k a)
  where
    go : Dec (k ≡ a) → P k
    go (yes e) = subst P (sym e) h
    go (no d) = absurd (omega (arith, one_else k a (λ e. d (sym e))))
along n p m P c a (x ∷ l) b s u h k o =
    go (ℕ_discrete k a) (along n p m P c x l b s.2 (λ j q. u j (omega arith)) (subst P s.0 (c a h (subst (λ (y : ℕ). y < m) (sym s.0) (u x (omega (arith, one_here x)))))) k)
  where
    go : Dec (k ≡ a) → (0 < occ k (x ∷ l) → P k) → P k
    go (yes e) r = subst P (sym e) h
    go (no d) r = r (omega (arith, one_else k a (λ e. d (sym e))))

module _ (w : List ℕ) (few : points_of w ≤ limit.POINTS)
    (on : (k : ℕ) → 0 < occ k (reached_by w (records_of w)) → next_of w k < points_of w)
    (back : (k : ℕ) → 0 < occ k (reached_by w (records_of w)) → prev_of w (next_of w k) ≡ k) where
  abbrev n : ℕ → ℕ
  n = next_of w

  abbrev p : ℕ → ℕ
  p = prev_of w

  abbrev m : ℕ
  m = points_of w

  abbrev R : List ℕ
  R = reached_by w (records_of w)

  all : Reached w few (records_of w)
  all = reached w few (records_of w)

  next_in : (k : ℕ) → 0 < occ k R → 0 < occ (n k) R
  next_in k o = all.shut k o (on k o)

  -- the links of the reached points, and every other point a ring by itself
  n' : ℕ → ℕ
  n' k = cond (is_in k R) (n k) k

  p' : ℕ → ℕ
  p' k = cond (is_in k R) (p k) k

  n_in : (k : ℕ) → 0 < occ k R → n' k ≡ n k
  unfolding n'
  n_in k o = rw (in_true k R o)

  p_in : (k : ℕ) → 0 < occ k R → p' k ≡ p k
  unfolding p'
  p_in k o = rw (in_true k R o)

  n_out : (k : ℕ) → occ k R ≡ 0 → n' k ≡ k
  unfolding n'
  n_out k o = rw (in_false k R o)

  p_out : (k : ℕ) → occ k R ≡ 0 → p' k ≡ k
  unfolding p'
  p_out k o = rw (in_false k R o)

  both_ways : Mutual n' p' m
  both_ways = record { next_low = λ k h. by_low k h (dec_lt 0 (occ k R)); prev_next = λ k h. by_back k (dec_lt 0 (occ k R)) }
    where
      by_low : (k : ℕ) → k < m → Dec (0 < occ k R) → n' k < m
      by_low k h (yes o) = rw (n_in k o) (on k o)
      by_low k h (no d) = rw (n_out k (omega arith)) h

      by_back : (k : ℕ) → Dec (0 < occ k R) → p' (n' k) ≡ k
      by_back k (yes o) = rw (n_in k o) (p_in (n k) (next_in k o) ∙ back k o)
      by_back k (no d) = ap p' (n_out k (omega arith)) ∙ p_out k (omega arith)

  -- the ring through k
  pub record RingAt (k : ℕ) : Type 0 where
    pub others : List ℕ
    pub ring : Whole n p m (k ∷ others)
    pub inside : (j : ℕ) → 0 < occ j (k ∷ others) → 0 < occ j R

  pub ring_at_lem : (k : ℕ) → 0 < occ k R → RingAt k
  ring_at_lem k h =
      let o : Orbit n' p' m k = orbit n' p' m both_ways k (all.fresh.below k h) in
      let q : (j : ℕ) → 0 < occ j (k ∷ o.others) → 0 < occ j R = along n' p' m (λ j. 0 < occ j R) (λ j x y. rw (n_in j x) (next_in j x)) k o.others k o.whole.linked o.whole.below h in
      record { others = o.others; ring = whole_kept n' p' n p m m (k ∷ o.others) o.whole (omega arith) (λ j x. sym (n_in j (q j x))) (λ j x. sym (p_in j (q j x))); inside = q }
