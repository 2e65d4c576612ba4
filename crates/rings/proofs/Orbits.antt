-- Links that are each other's converse make rings: from any point below c the walk along next comes back.
use Prim.Native.Nat.{ℕ, zero, suc, ◌+◌, ◌≤◌, ◌<◌}
use mathlib.Core.Path.{◌≡◌, refl, sym, ap, ◌∙◌, subst}
use mathlib.Core.Logic.{◌≢◌}
use mathlib.Core.List.{List, [], ◌∷◌, ◌++◌, append_assoc}
use native.Mathlib.Omega.{arith}
use native.Mathlib.Decide.{ℕ_discrete, dec_lt}
use lib.ListN.{length, length-append}
use Rattle.rings.specs.Count.{occ}
use Rattle.rings.specs.Links.{Seg}
use Rattle.rings.specs.Whole.{Whole}
use Rattle.rings.specs.Relink.{Mutual}
use Rattle.rings.proofs.Counting.{one_else, one_le, pigeon}
use Rattle.rings.proofs.Linking.{seg_join}
use Rattle.rings.proofs.Members.{occ_append, parted, seg_part, seg_prev}

-- the ring through s
pub record Orbit (n p : ℕ → ℕ) (c s : ℕ) : Type 0 where
  pub others : List ℕ
  pub whole : Whole n p c (s ∷ others)

module _ (n p : ℕ → ℕ) (c : ℕ) (h : Mutual n p c) (s : ℕ) where
  -- the one after the last is new, or it is s
  new : (l : List ℕ) (x : ℕ) → Seg n p (s ∷ l ++ (x ∷ [])) → ((k : ℕ) → occ k (s ∷ l) ≤ 1) → occ x l ≡ 0
  new l x g o = go (dec_lt 0 (occ x l))
    where
      go : Dec (0 < occ x l) → occ x l ≡ 0
      go (no d) = omega arith
      go (yes y) =
          let u = parted x l y in
          let g' : Seg n p (s ∷ (u.front ++ x ∷ u.back) ++ (x ∷ [])) = subst (λ (m : List ℕ). Seg n p (s ∷ m ++ (x ∷ []))) u.is g in
          let q = seg_part n p (s ∷ u.front) x (u.back ++ (x ∷ [])) (subst (λ (m : List ℕ). Seg n p (s ∷ m)) (append_assoc u.front (x ∷ u.back) (x ∷ [])) g') in
          absurd (omega (arith, o (p x), ap (occ (p x)) u.is, occ_append (p x) u.front (x ∷ u.back), seg_prev n p s u.front x q.0, seg_prev n p x u.back x q.1))

  grow : (f : ℕ) (l : List ℕ) (x : ℕ) → Seg n p (s ∷ l ++ (x ∷ [])) → ((k : ℕ) → occ k (s ∷ l) ≤ 1) → ((k : ℕ) → 0 < occ k (s ∷ l) → k < c) → x < c → f + length (s ∷ l) ≡ suc c → Orbit n p c s
  grow zero l x g o b k e = absurd (omega (arith, pigeon c (s ∷ l) o b))
  grow (suc f) l x g o b k e =
      go (ℕ_discrete x s)
      (λ d.
      grow f (l ++ (x ∷ [])) (n x)
      (subst (λ (m : List ℕ). Seg n p (s ∷ m)) (sym (append_assoc l (x ∷ []) (n x ∷ []))) (seg_join n p (s ∷ l) x (n x ∷ []) g (refl, h.prev_next x k, tt)))
      (λ y. count y d (ℕ_discrete y x))
      (λ y z. under y z (ℕ_discrete y x))
      (h.next_low x k)
      (omega (arith, length-append l (x ∷ []))))
    where
      count : (y : ℕ) → x ≢ s → Dec (y ≡ x) → occ y (s ∷ l ++ (x ∷ [])) ≤ 1
      count y d (yes z) = omega (arith, occ_append y l (x ∷ []), subst (λ (v : ℕ). occ v l ≡ 0) (sym z) (new l x g o), one_else y s (λ v. d (sym (v ∙ z))), one_le y x)
      count y d (no z) = omega (arith, occ_append y l (x ∷ []), o y, one_else y x (λ v. z (sym v)))

      under : (y : ℕ) → 0 < occ y (s ∷ l ++ (x ∷ [])) → Dec (y ≡ x) → y < c
      under y v (yes z) = omega arith
      under y v (no z) = b y (omega (arith, occ_append y l (x ∷ []), one_else y x (λ v. z (sym v))))

      go : Dec (x ≡ s) → (x ≢ s → Orbit n p c s) → Orbit n p c s
      go (yes z) r = record { others = l; whole = record { linked = subst (λ (y : ℕ). Seg n p (s ∷ l ++ (y ∷ []))) z g; once = o; below = b } }
      go (no z) r = r z

  pub orbit : s < c → Orbit n p c s
  orbit k = grow c [] (n s) (refl, h.prev_next s k, tt) (λ y. omega (arith, one_le y s)) (λ y o. low y o (ℕ_discrete y s)) (h.next_low s k) (omega arith)
    where
      low : (y : ℕ) → 0 < occ y (s ∷ []) → Dec (y ≡ s) → y < c
      low y o (yes e) = omega arith
      low y o (no d) = absurd (omega (arith, one_else y s (λ e. d (sym e))))
