-- Places on a list of distinct points, and the neighbours there.
use Prim.Native.Nat.{ℕ, zero, suc, ◌+◌, ◌≤◌, ◌<◌}
use mathlib.Core.Path.{◌≡◌, refl, ap, ◌∙◌, sym}
use mathlib.Core.Logic.{◌≢◌}
use mathlib.Core.Bool.{cond}
use mathlib.Core.List.{List, [], ◌∷◌, ◌++◌, map}
use mathlib.Core.Option.{some}
use native.Mathlib.Omega.{arith}
use native.Mathlib.Decide.{ℕ_discrete}
use lib.Dec.{eqb}
use lib.ListN.{length, get_or, length-append}
use borrow.Author.Tests.{eq-eqb, ne_eqb}
use Rattle.rings.specs.Circle.{omap}
use Rattle.rings.specs.Count.{one, occ, table}
use Rattle.rings.specs.Place.{place, or_zero}
use Rattle.rings.specs.Links.{Seg, Linked}
use Rattle.rings.proofs.Counting.{one_here, one_else, pigeon, length_table}
use Rattle.rings.proofs.Placing.{place_head, place_else, placed}
use Rattle.rings.proofs.Members.{one_is}
use Rattle.drawing.specs.Places.{next_place}

or_suc : (k : ℕ) (c : List ℕ) → 0 < occ k c → or_zero (omap suc (place k c)) ≡ suc (or_zero (place k c))
or_suc k c h = rw (placed k c h).is

-- a point on the list stands at its place
pub place_at : (k : ℕ) (c : List ℕ) → 0 < occ k c → get_or c (or_zero (place k c)) 0 ≡ k
place_at k [] h = absurd (omega arith)
place_at k (x ∷ l) h = go (ℕ_discrete x k) (λ y. place_at k l y)
  where
    go : Dec (x ≡ k) → (0 < occ k l → get_or l (or_zero (place k l)) 0 ≡ k) → get_or (x ∷ l) (or_zero (cond (eqb x k) (some 0) (omap suc (place k l)))) 0 ≡ k
    go (yes e) r = rw (eq-eqb x k e) e
    go (no d) r = let o : 0 < occ k l = omega (arith, one_else k x d) in rw (ne_eqb x k d, or_suc k l o) (r o)

pub place_low : (k : ℕ) (c : List ℕ) → 0 < occ k c → or_zero (place k c) < length c
place_low k c h = rw (placed k c h).is (placed k c h).short

pub occ_at : (p : ℕ) (c : List ℕ) → p < length c → 0 < occ (get_or c p 0) c
occ_at p [] h = absurd (omega arith)
occ_at zero (x ∷ l) h = omega (arith, one_here x)
occ_at (suc p) (x ∷ l) h = omega (arith, occ_at p l (omega arith))

pub at_place : (p : ℕ) (c : List ℕ) → ((k : ℕ) → occ k c ≤ 1) → p < length c → place (get_or c p 0) c ≡ some p
at_place p [] o h = absurd (omega arith)
at_place zero (x ∷ l) o h = place_head x l
at_place (suc p) (x ∷ l) o h =
    place_else (get_or l p 0) x l (λ e. omega (arith, o (get_or l p 0), one_is (get_or l p 0) x (sym e), occ_at p l (omega arith)))
    ∙ ap (omap suc) (at_place p l (λ k. omega (arith, o k)) (omega arith))

pub place_map : (ρ : ℕ → ℕ) → ((a b : ℕ) → eqb (ρ a) (ρ b) ≡ eqb a b) → (k : ℕ) (c : List ℕ) → place (ρ k) (map ρ c) ≡ place k c
place_map ρ t k [] = refl
place_map ρ t k (x ∷ c) = rw (t x k, place_map ρ t k c)

-- ---- the places nextPlace and before

pub next_place_low : (p m : ℕ) → p < m → next_place p m < m
unfolding next_place
next_place_low p m h = go (ℕ_discrete (suc p) m)
  where
    go : Dec (suc p ≡ m) → cond (eqb (suc p) m) 0 (suc p) < m
    go (yes e) = rw (eq-eqb (suc p) m e) (omega arith)
    go (no d) = rw (ne_eqb (suc p) m d) (omega arith)

seg_at : (n q : ℕ → ℕ) (l : List ℕ) (p : ℕ) → Seg n q l → suc p < length l → n (get_or l p 0) ≡ get_or l (suc p) 0
seg_at n q [] p s h = absurd (omega arith)
seg_at n q (a ∷ []) p s h = absurd (omega arith)
seg_at n q (a ∷ b ∷ r) zero s h = s.0
seg_at n q (a ∷ b ∷ r) (suc p) s h = seg_at n q (b ∷ r) p s.2 (omega arith)

-- get_or within the first list, and right after it
in_first : (p : ℕ) (c : List ℕ) (x : ℕ) → p < length c → get_or (c ++ (x ∷ [])) p 0 ≡ get_or c p 0
in_first p [] x h = absurd (omega arith)
in_first zero (y ∷ c) x h = refl
in_first (suc p) (y ∷ c) x h = in_first p c x (omega arith)

right_after : (p : ℕ) (c : List ℕ) (x : ℕ) → p ≡ length c → get_or (c ++ (x ∷ [])) p 0 ≡ x
right_after zero [] x h = refl
right_after (suc p) [] x h = absurd (omega arith)
right_after zero (y ∷ c) x h = absurd (omega arith)
right_after (suc p) (y ∷ c) x h = right_after p c x (omega arith)

pub next_at : (n q : ℕ → ℕ) (c : List ℕ) (p : ℕ) → Linked n q c → p < length c → n (get_or c p 0) ≡ get_or c (next_place p (length c)) 0
unfolding next_place
next_at n q [] p s h = absurd (omega arith)
next_at n q (x ∷ c) p s h = ap n (sym (in_first p (x ∷ c) x h)) ∙ seg_at n q (x ∷ c ++ (x ∷ [])) p s (omega (arith, length-append c (x ∷ []))) ∙ go (ℕ_discrete (suc p) (suc (length c)))
  where
    go : Dec (suc p ≡ suc (length c)) → get_or (x ∷ c ++ (x ∷ [])) (suc p) 0 ≡ get_or (x ∷ c) (cond (eqb (suc p) (suc (length c))) 0 (suc p)) 0
    go (yes e) = rw (eq-eqb (suc p) (suc (length c)) e) (right_after p c x (omega arith))
    go (no d) = rw (ne_eqb (suc p) (suc (length c)) d) (in_first p c x (omega arith))

-- ---- a one-to-one map of the numbers below n into those below m: n is at most m

none_of : (x : ℕ) (g : ℕ → ℕ) (k n : ℕ) → ((i : ℕ) → k ≤ i → i < k + n → g i ≢ x) → occ x (table g k n) ≡ 0
none_of x g k zero h = refl
none_of x g k (suc n) h = omega (arith, one_else x (g k) (h k (omega arith) (omega arith)), none_of x g (suc k) n (λ i a b. h i (omega arith) (omega arith)))

once : (x : ℕ) (g : ℕ → ℕ) (k n : ℕ) → ((i j : ℕ) → i < k + n → j < k + n → g i ≡ g j → i ≡ j) → occ x (table g k n) ≤ 1
once x g k zero h = omega arith
once x g k (suc n) h = go (ℕ_discrete (g k) x) (once x g (suc k) n (λ i j a b e. h i j (omega arith) (omega arith) e))
  where
    go : Dec (g k ≡ x) → occ x (table g (suc k) n) ≤ 1 → one x (g k) + occ x (table g (suc k) n) ≤ 1
    go (yes e) r =
        omega (arith, one_is x (g k) (sym e), none_of x g (suc k) n (λ i a b d. let z : i ≡ k = h i k (omega arith) (omega arith) (d ∙ sym e) in omega arith))
    go (no d) r = omega (arith, one_else x (g k) d)

within : (m x : ℕ) (g : ℕ → ℕ) (k n : ℕ) → ((i : ℕ) → i < k + n → g i < m) → 0 < occ x (table g k n) → x < m
within m x g k zero h o = absurd (omega arith)
within m x g k (suc n) h o = go (ℕ_discrete (g k) x) (λ y. within m x g (suc k) n (λ i a. h i (omega arith)) y)
  where
    go : Dec (g k ≡ x) → (0 < occ x (table g (suc k) n) → x < m) → x < m
    go (yes e) r = rw (← e) (h k (omega arith))
    go (no d) r = r (omega (arith, one_else x (g k) d))

pub at_most : (g : ℕ → ℕ) (n m : ℕ) → ((i : ℕ) → i < n → g i < m) → ((i j : ℕ) → i < n → j < n → g i ≡ g j → i ≡ j) → n ≤ m
at_most g n m h o = omega (arith, length_table g 0 n, pigeon m (table g 0 n) (λ x. once x g 0 n (λ i j a b e. o i j (omega arith) (omega arith) e)) (λ x y. within m x g 0 n (λ i a. h i (omega arith)) y))
