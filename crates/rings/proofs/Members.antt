-- Members of a ring: a list is parted at a member, a ring may be seen from it, and its next and prev are members too.
use Prim.Native.Nat.{ℕ, ◌+◌, ◌≤◌, ◌<◌}
use mathlib.Core.Path.{◌≡◌, sym, ap, ◌∙◌, subst}
use mathlib.Core.List.{List, [], ◌∷◌, ◌++◌}
use native.Mathlib.Omega.{arith}
use native.Mathlib.Decide.{ℕ_discrete}
use lib.ListN.{length}
use Rattle.rings.specs.Count.{one, occ}
use Rattle.rings.specs.Links.{Seg, Linked}
use Rattle.rings.specs.Whole.{Whole}
use Rattle.rings.proofs.Circles.{spin_past}
use Rattle.rings.proofs.Counting.{sum_by_append, one_here, one_else, all_in, occ_rotate}
use Rattle.rings.proofs.Linking.{linked_spin, linked_kept}

pub one_is : (k x : ℕ) → k ≡ x → one k x ≡ 1
one_is k x e = subst (λ (y : ℕ). one k y ≡ 1) e (one_here k)

pub occ_append : (k : ℕ) (a b : List ℕ) → occ k (a ++ b) ≡ occ k a + occ k b
occ_append k a b = sum_by_append (one k) a b

pub record Parted (k : ℕ) (c : List ℕ) : Type 0 where
  pub front : List ℕ
  pub back : List ℕ
  pub is : c ≡ front ++ k ∷ back

pub parted : (k : ℕ) (c : List ℕ) → 0 < occ k c → Parted k c
parted k [] o = absurd (omega arith)
parted k (x ∷ l) o = go (ℕ_discrete x k) (λ p. parted k l p)
  where
    go : Dec (x ≡ k) → (0 < occ k l → Parted k l) → Parted k (x ∷ l)
    go (yes e) r = record { front = []; back = l; is = ap (λ (y : ℕ). y ∷ l) e }
    go (no d) r =
        let t = r (omega (arith, one_else k x d)) in
        record { front = x ∷ t.front; back = t.back; is = ap (λ (y : List ℕ). x ∷ y) t.is }

module _ (n p : ℕ → ℕ) where
  pub linked_rotate : (a b : List ℕ) → Linked n p (a ++ b) → Linked n p (b ++ a)
  linked_rotate a b s = subst (Linked n p) (spin_past a b) (linked_spin n p (length a) (a ++ b) s)

  pub whole_rotate : (m : ℕ) (a b : List ℕ) → Whole n p m (a ++ b) → Whole n p m (b ++ a)
  whole_rotate m a b w =
      record {
        linked = linked_rotate a b w.linked;
        once = λ k. omega (arith, w.once k, occ_rotate k a b);
        below = λ k o. w.below k (omega (arith, occ_rotate k a b));
      }

  -- a run is parted at a member
  pub seg_part : (a : List ℕ) (b : ℕ) (c : List ℕ) → Seg n p (a ++ b ∷ c) → Seg n p (a ++ (b ∷ [])) × Seg n p (b ∷ c)
  seg_part [] b c s = (tt, s)
  seg_part (x ∷ []) b c s = ((s.0, s.1, tt), s.2)
  seg_part (x ∷ y ∷ a) b c s =
      let q : Seg n p (y ∷ a ++ (b ∷ [])) × Seg n p (b ∷ c) = seg_part (y ∷ a) b c s.2 in
      ((s.0, s.1, q.0), q.1)

  -- the next of the first, and the prev of the last, are of the run
  pub seg_next : (a : ℕ) (l : List ℕ) (b : ℕ) → Seg n p (a ∷ l ++ (b ∷ [])) → 0 < occ (n a) (l ++ (b ∷ []))
  seg_next a [] b s = omega (arith, one_is (n a) b s.0)
  seg_next a (x ∷ l) b s = omega (arith, one_is (n a) x s.0)

  pub seg_prev : (a : ℕ) (l : List ℕ) (b : ℕ) → Seg n p (a ∷ l ++ (b ∷ [])) → 0 < occ (p b) (a ∷ l)
  seg_prev a [] b s = omega (arith, one_is (p b) a s.1)
  seg_prev a (x ∷ l) b s = omega (arith, seg_prev x l b s.2)

  -- the two links are each other's converse
  seg_back : (a : ℕ) (l : List ℕ) (b : ℕ) → Seg n p (a ∷ l ++ (b ∷ [])) → n (p b) ≡ b
  seg_back a [] b s = ap n s.1 ∙ s.0
  seg_back a (x ∷ l) b s = seg_back x l b s.2

  seg_on : (a : ℕ) (l : List ℕ) (b : ℕ) → Seg n p (a ∷ l ++ (b ∷ [])) → p (n a) ≡ a
  seg_on a [] b s = ap p s.0 ∙ s.1
  seg_on a (x ∷ l) b s = ap p s.0 ∙ s.1

  module _ (m : ℕ) (c : List ℕ) (w : Whole n p m c) (k : ℕ) (o : 0 < occ k c) where
    -- a ring seen from a member
    pub record From : Type 0 where
      pub others : List ℕ
      pub whole : Whole n p m (k ∷ others)
      pub occs : (j : ℕ) → occ j (k ∷ others) ≡ occ j c

    pub from : From
    from =
        let t = parted k c o in
        record {
          others = t.back ++ t.front;
          whole = whole_rotate m t.front (k ∷ t.back) (subst (Whole n p m) t.is w);
          occs = λ j. occ_rotate j (k ∷ t.back) t.front ∙ ap (occ j) (sym t.is);
        }

    pub next_on : 0 < occ (n k) c
    next_on = omega (arith, seg_next k from.others k from.whole.linked, from.occs (n k), occ_append (n k) from.others (k ∷ []))

    pub prev_on : 0 < occ (p k) c
    prev_on = omega (arith, seg_prev k from.others k from.whole.linked, from.occs (p k))

    pub next_prev : n (p k) ≡ k
    next_prev = seg_back k from.others k from.whole.linked

    pub prev_next : p (n k) ≡ k
    prev_next = seg_on k from.others k from.whole.linked

-- a ring none of whose points is written
pub whole_kept : (n p n' p' : ℕ → ℕ) (m m' : ℕ) (c : List ℕ) → Whole n p m c → m ≤ m' → ((k : ℕ) → 0 < occ k c → n' k ≡ n k) → ((k : ℕ) → 0 < occ k c → p' k ≡ p k) → Whole n' p' m' c
whole_kept n p n' p' m m' c w h f g =
    record {
      linked = linked_kept n p n' p' c w.linked (all_in (λ k. n' k ≡ n k) c f) (all_in (λ k. p' k ≡ p k) c g);
      once = w.once;
      below = λ k o. omega (arith, w.below k o);
    }
