-- Laws of counting: occurrences in a list, sums, that distinct numbers below m are at most m, and values at numbers in a row.
use mathlib.Core.Path.{◌≡◌, refl, sym, ap, ◌∙◌, subst}
use mathlib.Core.Logic.{◌≢◌}
use mathlib.Core.List.{List, [], ◌∷◌, ◌++◌}
use mathlib.Core.Bool.{Bool, true, false, cond}
use Prim.Native.Nat.{ℕ, zero, suc, ◌+◌, ◌≤◌, ◌<◌}
use native.Mathlib.Nat.{not-suc-le-zero, le_of_suc-le-suc}
use native.Mathlib.Omega.{arith}
use native.Mathlib.Decide.{ℕ_discrete}
use lib.ListN.{length, get_or, set}
use lib.Dec.{eqb}
use borrow.Author.Tests.{eq-eqb, ne_eqb}
use Rattle.rings.specs.Circle.{turn, spin, last_of, init_of, rest}
use Rattle.rings.specs.Count.{sum_by, sum_to, one, occ, table}
use Rattle.rings.specs.Links.{All}

module _ {A : Type 0} where
  pub sum_by_append : (f : A → ℕ) (a b : List A) → sum_by f (a ++ b) ≡ sum_by f a + sum_by f b
  sum_by_append f [] b = omega arith
  sum_by_append f (x ∷ xs) b = omega (arith, sum_by_append f xs b)

  pub sum_by_set : (f : A → ℕ) (l : List A) (i : ℕ) (y d : A) → i < length l → sum_by f (set l i y) + f (get_or l i d) ≡ sum_by f l + f y
  sum_by_set f [] i y d h = absurd (not-suc-le-zero h)
  sum_by_set f (x ∷ xs) zero y d h = omega arith
  sum_by_set f (x ∷ xs) (suc i) y d h = omega (arith, sum_by_set f xs i y d (le_of_suc-le-suc h))

pub one_here : (k : ℕ) → one k k ≡ 1
one_here k = rw (eq-eqb k k refl)

pub one_le : (k x : ℕ) → one k x ≤ 1
one_le k x = go (eqb x k)
  where
    go : (b : Bool) → cond b 1 0 ≤ 1
    go true = omega arith
    go false = omega arith

module _ (k : ℕ) where
  pub occ_turn : (c : List ℕ) → occ k (turn c) ≡ occ k c
  occ_turn [] = refl
  occ_turn (x ∷ xs) = omega (arith, sum_by_append (one k) xs (x ∷ []))

  pub occ_spin : (n : ℕ) (c : List ℕ) → occ k (spin n c) ≡ occ k c
  occ_spin zero c = refl
  occ_spin (suc n) c = occ_spin n (turn c) ∙ occ_turn c

  pub occ_rest : (c : List ℕ) → occ k (rest c) ≤ occ k c
  occ_rest [] = omega arith
  occ_rest (x ∷ xs) = omega arith

  pub occ_last : (x : ℕ) (xs : List ℕ) → one k (last_of x xs) + occ k (init_of x xs) ≡ one k x + occ k xs
  occ_last x [] = refl
  occ_last x (y ∷ ys) = omega (arith, occ_last y ys)

-- a point that is not in a list is none of it
pub apart : (k : ℕ) (l : List ℕ) → occ k l ≡ 0 → All (λ y. y ≢ k) l
apart k [] h = tt
apart k (x ∷ l) h = (λ e. omega (arith, h, subst (λ (z : ℕ). one k z ≡ 1) (sym e) (one_here k)), apart k l (omega arith))

pub one_else : (k x : ℕ) → x ≢ k → one k x ≡ 0
one_else k x h = rw (ne_eqb x k h)

-- ---- what holds of every point

pub all_in : (Q : ℕ → Type 0) (l : List ℕ) → ((k : ℕ) → 0 < occ k l → Q k) → All Q l
all_in Q [] h = tt
all_in Q (x ∷ l) h = (h x (omega (arith, one_here x)), all_in Q l (λ k o. h k (omega arith)))

pub in_all : (Q : ℕ → Type 0) (l : List ℕ) (k : ℕ) → All Q l → 0 < occ k l → Q k
in_all Q [] k h o = absurd (omega arith)
in_all Q (x ∷ l) k h o = go (ℕ_discrete x k) (λ p. in_all Q l k h.1 p)
  where
    go : Dec (x ≡ k) → (0 < occ k l → Q k) → Q k
    go (yes e) r = subst Q e h.0
    go (no d) r = r (omega (arith, one_else k x d))

pub occ_head : (x : ℕ) (xs : List ℕ) → 0 < occ x (x ∷ xs)
occ_head x xs = omega (arith, one_here x)

pub occ_last_of : (x : ℕ) (xs : List ℕ) → 0 < occ (last_of x xs) (x ∷ xs)
occ_last_of x [] = omega (arith, one_here x)
occ_last_of x (y ∷ ys) = omega (arith, occ_last_of y ys)

pub occ_rotate : (k : ℕ) (a b : List ℕ) → occ k (a ++ b) ≡ occ k (b ++ a)
occ_rotate k a b = omega (arith, sum_by_append (one k) a b, sum_by_append (one k) b a)

-- ---- sums below a bound

pub sum_same : (n : ℕ) (f g : ℕ → ℕ) → ((j : ℕ) → j < n → g j ≡ f j) → sum_to n g ≡ sum_to n f
sum_same zero f g h = refl
sum_same (suc n) f g h = omega (arith, h n (omega arith), sum_same n f g (λ j l. h j (omega arith)))

sum_add : (n : ℕ) (f g : ℕ → ℕ) → sum_to n (λ j. f j + g j) ≡ sum_to n f + sum_to n g
sum_add zero f g = refl
sum_add (suc n) f g = omega (arith, sum_add n f g)

sum_one : (n x : ℕ) → x < n → sum_to n (λ k. one k x) ≡ 1
sum_one zero x h = absurd (omega arith)
sum_one (suc n) x h = go (ℕ_discrete x n) (sum_one n x) (sum_none n x)
  where
    sum_none : (n x : ℕ) → n ≤ x → sum_to n (λ k. one k x) ≡ 0
    sum_none zero x h = refl
    sum_none (suc n) x h = omega (arith, sum_none n x (omega arith), one_else n x (λ e. omega arith))

    go : Dec (x ≡ n) → (x < n → sum_to n (λ k. one k x) ≡ 1) → (n ≤ x → sum_to n (λ k. one k x) ≡ 0) → sum_to n (λ k. one k x) + one n x ≡ 1
    go (yes e) r z = omega (arith, z (omega arith), subst (λ (y : ℕ). one n y ≡ 1) (sym e) (one_here n))
    go (no d) r z = omega (arith, r (omega arith), one_else n x d)

sum_zero : (n : ℕ) → sum_to n (λ k. 0) ≡ 0
sum_zero zero = refl
sum_zero (suc n) = omega (arith, sum_zero n)

sum_occ : (m : ℕ) (l : List ℕ) → All (λ k. k < m) l → sum_to m (λ k. occ k l) ≡ length l
sum_occ m [] h = sum_zero m
sum_occ m (x ∷ l) h = omega (arith, sum_add m (λ k. one k x) (λ k. occ k l), sum_one m x h.0, sum_occ m l h.1)

sum_le : (m : ℕ) (f : ℕ → ℕ) → ((k : ℕ) → f k ≤ 1) → sum_to m f ≤ m
sum_le zero f h = omega arith
sum_le (suc m) f h = omega (arith, h m, sum_le m f h)

pub pigeon : (m : ℕ) (l : List ℕ) → ((k : ℕ) → occ k l ≤ 1) → ((k : ℕ) → 0 < occ k l → k < m) → length l ≤ m
pigeon m l o b = omega (arith, sum_occ m l (all_in (λ k. k < m) l b), sum_le m (λ k. occ k l) o)

-- a sum of which one term has changed
pub sum_change : (n i : ℕ) (f g : ℕ → ℕ) → i < n → ((j : ℕ) → j < n → j ≢ i → g j ≡ f j) → sum_to n g + f i ≡ sum_to n f + g i
sum_change zero i f g h e = absurd (omega arith)
sum_change (suc n) i f g h e = go (ℕ_discrete i n) (λ l. sum_change n i f g l (λ j m d. e j (omega arith) d))
  where
    go : Dec (i ≡ n) → (i < n → sum_to n g + f i ≡ sum_to n f + g i) → (sum_to n g + g n) + f i ≡ (sum_to n f + f n) + g i
    go (yes d) r =
        let a : sum_to n g ≡ sum_to n f = sum_same n f g (λ j l. e j (omega arith) (λ z. omega arith)) in
        omega (arith, ap f d, ap g d)
    go (no d) r = omega (arith, r (omega arith), e n (omega arith) (λ z. d (sym z)))

pub sum_term : (n i : ℕ) (f : ℕ → ℕ) → i < n → f i ≤ sum_to n f
sum_term zero i f h = absurd (omega arith)
sum_term (suc n) i f h = go (ℕ_discrete i n) (λ l. sum_term n i f l)
  where
    go : Dec (i ≡ n) → (i < n → f i ≤ sum_to n f) → f i ≤ sum_to n f + f n
    go (yes e) r = omega (arith, ap f e)
    go (no d) r = omega (arith, r (omega arith))

-- two terms of a sum
pub sum_two : (n i j : ℕ) (f : ℕ → ℕ) → i < n → j < n → i ≢ j → f i + f j ≤ sum_to n f
sum_two zero i j f h k d = absurd (omega arith)
sum_two (suc n) i j f h k d = go (ℕ_discrete i n) (ℕ_discrete j n) (λ a b. sum_two n i j f a b d)
  where
    go : Dec (i ≡ n) → Dec (j ≡ n) → (i < n → j < n → f i + f j ≤ sum_to n f) → f i + f j ≤ sum_to n f + f n
    go (yes e) (yes e') r = absurd (d (e ∙ sym e'))
    go (yes e) (no d') r = omega (arith, ap f e, sum_term n j f (omega arith))
    go (no d') (yes e) r = omega (arith, ap f e, sum_term n i f (omega arith))
    go (no d₁) (no d₂) r = omega (arith, r (omega arith) (omega arith))

-- ---- values at numbers in a row

pub length_table : {A : Type 0} (g : ℕ → A) (k n : ℕ) → length (table g k n) ≡ n
length_table g k zero = refl
length_table g k (suc n) = ap suc (length_table g (suc k) n)

pub at_table : {A : Type 0} (g : ℕ → A) (d : A) (k n i : ℕ) → i < n → get_or (table g k n) i d ≡ g (k + i)
at_table g d k zero i h = absurd (omega arith)
at_table g d k (suc n) zero h = ap g (omega arith)
at_table g d k (suc n) (suc i) h = at_table g d (suc k) n i (le_of_suc-le-suc h) ∙ ap g (omega arith)
