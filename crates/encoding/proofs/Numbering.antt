-- Numbering ring by ring: which ring a number is of, and the places on a circle.
use Prim.Native.Nat.{ℕ, zero, suc, ◌+◌, ◌-◌, ◌≤◌, ◌<◌}
use mathlib.Core.Path.{◌≡◌, refl, ap, ◌∙◌, sym}
use mathlib.Core.Bool.{Bool, true, false, cond}
use mathlib.Core.List.{[], ◌∷◌, ◌++◌}
use native.Mathlib.Omega.{arith}
use native.Mathlib.Decide.{ℕ_discrete, dec_lt}
use lib.Dec.{leb}
use lib.ListN.{length, get_or}
use borrow.Author.Tests.{eq-eqb, ne_eqb, le-leb, lt-leb, leb-true, leb-false}
use Rattle.rings.specs.Count.{one, occ, sum_to}
use Rattle.rings.specs.Links.{Seg, Linked}
use Rattle.rings.proofs.Counting.{one_else}
use Rattle.rings.proofs.Members.{one_is}
use Rattle.order.specs.Demand3.{numbers}
use Rattle.drawing.specs.Places.{next_place, prev_place}
use Rattle.encoding.specs.Encode.{ring_holding}

-- ---- sums

pub sum_up : (len : ℕ → ℕ) (i n : ℕ) → i < n → sum_to i len + len i ≤ sum_to n len
sum_up len i zero h = absurd (omega arith)
sum_up len i (suc n) h = go (ℕ_discrete i n) (λ l. sum_up len i n l)
  where
    go : Dec (i ≡ n) → (i < n → sum_to i len + len i ≤ sum_to n len) → sum_to i len + len i ≤ sum_to n len + len n
    go (yes e) r = rw e (omega arith)
    go (no d) r = omega (arith, r (omega arith))

-- ---- the ring of a number

pub record RingFound (len : ℕ → ℕ) (n k : ℕ) : Type 0 where
  pub known : ring_holding len n k < n
  pub low : sum_to (ring_holding len n k) len ≤ k
  pub high : k < sum_to (ring_holding len n k) len + len (ring_holding len n k)

pub ring_found : (len : ℕ → ℕ) (n k : ℕ) → k < sum_to n len → RingFound len n k
unfolding ring_holding
ring_found len zero k h = absurd (omega arith)
ring_found len (suc n) k h = go (leb (sum_to n len) k) refl (λ l. ring_found len n k l)
  where
    keep : (i : ℕ) → (i < n) → sum_to i len ≤ k → k < sum_to i len + len i → ring_holding len (suc n) k ≡ i → RingFound len (suc n) k
    keep i a b c e = record { known = rw e (omega arith); low = rw e b; high = rw e c }

    go : (b : Bool) → leb (sum_to n len) k ≡ b → (k < sum_to n len → RingFound len n k) → RingFound len (suc n) k
    go true e r =
        let q : ring_holding len (suc n) k ≡ n = rw e in
        record { known = rw q (omega arith); low = rw q (leb-true _ _ e); high = rw q h }
    go false e r =
        let z = r (leb-false _ _ e) in
        keep (ring_holding len n k) z.known z.low z.high (rw e)

pub ring_is : (len : ℕ → ℕ) (n i p : ℕ) → i < n → p < len i → ring_holding len n (sum_to i len + p) ≡ i
unfolding ring_holding
ring_is len zero i p h l = absurd (omega arith)
ring_is len (suc n) i p h l = go (ℕ_discrete i n) (λ m. ring_is len n i p m l)
  where
    go : Dec (i ≡ n) → (i < n → ring_holding len n (sum_to i len + p) ≡ i) → cond (leb (sum_to n len) (sum_to i len + p)) n (ring_holding len n (sum_to i len + p)) ≡ i
    go (yes e) r = rw (le-leb (sum_to n len) (sum_to i len + p) (rw e (omega arith))) (sym e)
    go (no d) r = rw (lt-leb (sum_to n len) (sum_to i len + p) (omega (arith, sum_up len i n (omega arith)))) (r (omega arith))

-- ---- the places on a ring of m points

pub next_place_more : (p m : ℕ) → suc p < m → next_place p m ≡ suc p
unfolding next_place
next_place_more p m h = rw (ne_eqb (suc p) m (λ e. omega arith))

pub next_place_end : (p m : ℕ) → suc p ≡ m → next_place p m ≡ 0
unfolding next_place
next_place_end p m h = rw (eq-eqb (suc p) m h)

pub prev_place_zero : (m : ℕ) → prev_place 0 m ≡ m - 1
unfolding prev_place
prev_place_zero m = refl

pub prev_place_more : (p m : ℕ) → 0 < p → prev_place p m ≡ p - 1
unfolding prev_place
prev_place_more p m h = rw (ne_eqb p 0 (λ e. omega arith))

pub prev_place_low : (p m : ℕ) → p < m → prev_place p m < m
prev_place_low p m h = go (ℕ_discrete p 0)
  where
    go : Dec (p ≡ 0) → prev_place p m < m
    go (yes e) = rw (e, prev_place_zero m) (omega arith)
    go (no d) = rw (prev_place_more p m (omega arith)) (omega arith)

pub next_prev_place : (p m : ℕ) → p < m → next_place (prev_place p m) m ≡ p
next_prev_place p m h = go (ℕ_discrete p 0)
  where
    go : Dec (p ≡ 0) → next_place (prev_place p m) m ≡ p
    go (yes e) = rw (e, prev_place_zero m) (next_place_end (m - 1) m (omega arith))
    go (no d) = rw (prev_place_more p m (omega arith)) (next_place_more (p - 1) m (omega arith) ∙ omega arith)

pub prev_next_place : (p m : ℕ) → p < m → prev_place (next_place p m) m ≡ p
prev_next_place p m h = go (ℕ_discrete (suc p) m)
  where
    go : Dec (suc p ≡ m) → prev_place (next_place p m) m ≡ p
    go (yes e) = rw (next_place_end p m e, prev_place_zero m) (omega arith)
    go (no d) = rw (next_place_more p m (omega arith), prev_place_more (suc p) m (omega arith)) (omega arith)

-- ---- the numbers b, b + 1, .., n of them

pub length_numbers : (b n : ℕ) → length (numbers b n) ≡ n
length_numbers b zero = refl
length_numbers b (suc n) = ap suc (length_numbers (suc b) n)

pub at_numbers : (b n p : ℕ) → p < n → get_or (numbers b n) p 0 ≡ b + p
at_numbers b zero p h = absurd (omega arith)
at_numbers b (suc n) zero h = omega arith
at_numbers b (suc n) (suc p) h = omega (arith, at_numbers (suc b) n p (omega arith))

pub numbers_before : (k b n : ℕ) → k < b → occ k (numbers b n) ≡ 0
numbers_before k b zero h = refl
numbers_before k b (suc n) h = omega (arith, one_else k b (λ e. omega arith), numbers_before k (suc b) n (omega arith))

pub numbers_past : (k b n : ℕ) → b + n ≤ k → occ k (numbers b n) ≡ 0
numbers_past k b zero l = refl
numbers_past k b (suc n) l = omega (arith, one_else k b (λ e. omega arith), numbers_past k (suc b) n (omega arith))

pub numbers_in : (k b n : ℕ) → b ≤ k → k < b + n → occ k (numbers b n) ≡ 1
numbers_in k b zero h l = absurd (omega arith)
numbers_in k b (suc n) h l = go (ℕ_discrete b k) (λ m. numbers_in k (suc b) n m (omega arith))
  where
    go : Dec (b ≡ k) → (suc b ≤ k → occ k (numbers (suc b) n) ≡ 1) → one k b + occ k (numbers (suc b) n) ≡ 1
    go (yes e) r = omega (arith, one_is k b (sym e), numbers_before k (suc b) n (omega arith))
    go (no d) r = omega (arith, one_else k b d, r (omega arith))

-- who is among them
pub numbers_there : (k b n : ℕ) → 0 < occ k (numbers b n) → (b ≤ k) × (k < b + n)
numbers_there k b n h = go (dec_lt k b) (dec_lt k (b + n))
  where
    go : Dec (k < b) → Dec (k < b + n) → (b ≤ k) × (k < b + n)
    go (yes l) e = absurd (omega (arith, numbers_before k b n l))
    go (no l) (yes e) = (omega arith, e)
    go (no l) (no e) = absurd (omega (arith, numbers_past k b n (omega arith)))

pub numbers_once : (k b n : ℕ) → occ k (numbers b n) ≤ 1
numbers_once k b n = go (dec_lt 0 (occ k (numbers b n)))
  where
    go : Dec (0 < occ k (numbers b n)) → occ k (numbers b n) ≤ 1
    go (yes h) = let z = numbers_there k b n h in omega (arith, numbers_in k b n z.0 z.1)
    go (no h) = omega arith

module _ (n p : ℕ → ℕ) (b : ℕ) where
  seg_run : (m k last : ℕ) → k + m ≡ last → ((q : ℕ) → k ≤ q → q < k + m → (n q ≡ suc q) × (p (suc q) ≡ q)) → n last ≡ b → p b ≡ last → Seg n p (k ∷ numbers (suc k) m ++ (b ∷ []))
  seg_run zero k last e h f g = let z : k ≡ last = omega arith in (ap n z ∙ f, g ∙ sym z, tt)
  seg_run (suc m) k last e h f g = let z = h k (omega arith) (omega arith) in (z.0, z.1, seg_run m (suc k) last (omega arith) (λ q x y. h q (omega arith) (omega arith)) f g)

  pub numbers_linked : (len : ℕ) → ((q : ℕ) → q < len → n (b + q) ≡ b + next_place q len) → ((q : ℕ) → q < len → p (b + q) ≡ b + prev_place q len) → Linked n p (numbers b len)
  numbers_linked zero f g = tt
  numbers_linked (suc m) f g =
      seg_run m b (b + m) refl steps
      (f m (omega arith) ∙ ap (λ (x : ℕ). b + x) (next_place_end m (suc m) refl) ∙ omega arith)
      (ap p (let z : b ≡ b + 0 = omega arith in z) ∙ g 0 (omega arith) ∙ ap (λ (x : ℕ). b + x) (prev_place_zero (suc m)) ∙ omega arith)
    where
      steps : (q : ℕ) → b ≤ q → q < b + m → (n q ≡ suc q) × (p (suc q) ≡ q)
      steps q x y =
          let z : q ≡ b + (q - b) = omega arith in
          let u : suc q ≡ b + suc (q - b) = omega arith in (
            ap n z ∙ f (q - b) (omega arith) ∙ ap (λ (i : ℕ). b + i) (next_place_more (q - b) (suc m) (omega arith)) ∙ omega arith,
            ap p u ∙ g (suc (q - b)) (omega arith) ∙ ap (λ (i : ℕ). b + i) (prev_place_more (suc (q - b)) (suc m) (omega arith)) ∙ omega arith,
          )
