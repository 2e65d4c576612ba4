-- The numbers below n that pass a test: how many, which, and that they rise.
use Prim.Native.Nat.{ℕ, zero, suc, ◌+◌, ◌≤◌, ◌<◌}
use mathlib.Core.Path.{◌≡◌, refl, sym, ap, ◌∙◌, subst}
use mathlib.Core.Logic.{◌≢◌}
use mathlib.Core.Bool.{Bool, true, false, cond}
use mathlib.Core.List.{List, [], ◌∷◌, ◌++◌}
use native.Mathlib.Omega.{arith}
use native.Mathlib.Decide.{ℕ_discrete, dec_lt}
use lib.ListN.{length, length-append}
use Rattle.rings.specs.Count.{one, occ}
use Rattle.rings.specs.Links.{All}
use Rattle.rings.proofs.Counting.{sum_by_append, one_here, one_else, all_in}
use Rattle.windows.specs.RecordsIn.{once, passing}
use Rattle.windows.specs.Windows.{Rising}

module _ (q : ℕ → Bool) where
  pub passing_length : (i : ℕ) → length (passing q (suc i)) ≡ length (passing q i) + once (q i)
  passing_length i = go (q i)
    where
      go : (b : Bool) → length (cond b (passing q i ++ (i ∷ [])) (passing q i)) ≡ length (passing q i) + once b
      go true = length-append (passing q i) (i ∷ [])
      go false = omega arith

  pub once_le : (b : Bool) → once b ≤ 1
  once_le true = omega arith
  once_le false = omega arith

  pub passing_few : (n : ℕ) → length (passing q n) ≤ n
  passing_few zero = omega arith
  passing_few (suc n) = omega (arith, passing_length n, passing_few n, once_le (q n))

  pub passing_up : (n i : ℕ) → i ≤ n → length (passing q i) ≤ length (passing q n)
  passing_up zero i h = let z : i ≡ 0 = omega arith in rw z (omega arith)
  passing_up (suc n) i h = go (ℕ_discrete i (suc n)) (passing_up n i)
    where
      go : Dec (i ≡ suc n) → (i ≤ n → length (passing q i) ≤ length (passing q n)) → length (passing q i) ≤ length (passing q (suc n))
      go (yes e) r = subst (λ (k : ℕ). length (passing q k) ≤ length (passing q (suc n))) (sym e) (omega arith)
      go (no d) r = omega (arith, r (omega arith), passing_length n)

  -- ---- which
  occ_more : (j i : ℕ) → occ j (passing q (suc i)) ≡ occ j (passing q i) + cond (q i) (one j i) 0
  occ_more j i = go (q i)
    where
      go : (b : Bool) → occ j (cond b (passing q i ++ (i ∷ [])) (passing q i)) ≡ occ j (passing q i) + cond b (one j i) 0
      go true = omega (arith, sum_by_append (one j) (passing q i) (i ∷ []))
      go false = omega arith

  pub passing_past : (n j : ℕ) → n ≤ j → occ j (passing q n) ≡ 0
  passing_past zero j h = refl
  passing_past (suc n) j h = occ_more j n ∙ go (q n) (passing_past n j (omega arith))
    where
      go : (b : Bool) → occ j (passing q n) ≡ 0 → occ j (passing q n) + cond b (one j n) 0 ≡ 0
      go true r = omega (arith, r, one_else j n (λ e. omega arith))
      go false r = omega (arith, r)

  pub passing_here : (n j : ℕ) → j < n → occ j (passing q n) ≡ once (q j)
  passing_here zero j h = absurd (omega arith)
  passing_here (suc n) j h = occ_more j n ∙ go (ℕ_discrete j n) (passing_here n j)
    where
      last : (b : Bool) → occ n (passing q n) + cond b (one n n) 0 ≡ once b
      last true = omega (arith, passing_past n n (omega arith), one_here n)
      last false = omega (arith, passing_past n n (omega arith))

      other : j ≢ n → (b : Bool) → cond b (one j n) 0 ≡ 0
      other d true = one_else j n (λ e. d (sym e))
      other d false = refl

      go : Dec (j ≡ n) → (j < n → occ j (passing q n) ≡ once (q j)) → occ j (passing q n) + cond (q n) (one j n) 0 ≡ once (q j)
      go (yes e) r = subst (λ (k : ℕ). occ k (passing q n) + cond (q n) (one k n) 0 ≡ once (q k)) (sym e) (last (q n))
      go (no d) r = omega (arith, r (omega arith), other d (q n))

  -- ---- rising
  rising_last : (k m : ℕ) (xs : List ℕ) → Rising k xs → All (λ x. x < m) xs → k ≤ m → Rising k (xs ++ (m ∷ []))
  rising_last k m [] r u h = (h, tt)
  rising_last k m (x ∷ xs) r u h = (r.0, rising_last (suc x) m xs r.1 u.1 u.0)

  all_below : (n : ℕ) → All (λ x. x < n) (passing q n)
  all_below n = all_in (λ x. x < n) (passing q n) (λ k o. go k o (dec_lt k n))
    where
      go : (k : ℕ) → 0 < occ k (passing q n) → Dec (k < n) → k < n
      go k o (yes h) = h
      go k o (no h) = absurd (omega (arith, o, passing_past n k (omega arith)))

  pub passing_rises : (n : ℕ) → Rising 0 (passing q n)
  passing_rises zero = tt
  passing_rises (suc n) = go (q n) (passing_rises n)
    where
      go : (b : Bool) → Rising 0 (passing q n) → Rising 0 (cond b (passing q n ++ (n ∷ [])) (passing q n))
      go true r = rising_last 0 n (passing q n) r (all_below n) (omega arith)
      go false r = r

-- ---- by another test
pub passing_same : (q r : ℕ → Bool) (n : ℕ) → ((i : ℕ) → i < n → q i ≡ r i) → passing q n ≡ passing r n
passing_same q r zero h = refl
passing_same q r (suc n) h =
    ap (λ (b : Bool). cond b (passing q n ++ (n ∷ [])) (passing q n)) (h n (omega arith)) ∙ ap (λ (l : List ℕ). cond (r n) (l ++ (n ∷ [])) l) (passing_same q r n (λ i l. h i (omega arith)))

pub passing_none : (q : ℕ → Bool) (n : ℕ) → ((i : ℕ) → q i ≡ false) → passing q n ≡ []
passing_none q zero h = refl
passing_none q (suc n) h = ap (λ (b : Bool). cond b (passing q n ++ (n ∷ [])) (passing q n)) (h n) ∙ passing_none q n h
