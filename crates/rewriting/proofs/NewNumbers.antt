-- The table of new numbers: a point's is how many points come before its ring, and its place there.
use Prim.Native.Nat.{ℕ, zero, suc, ◌+◌, ◌≤◌, ◌<◌}
use mathlib.Core.Path.{◌≡◌, refl, sym, ap, ◌∙◌, subst}
use mathlib.Core.List.{List, [], ◌∷◌}
use native.Mathlib.Omega.{arith}
use native.Mathlib.Decide.{ℕ_discrete}
use lib.ListN.{length, get_or, set, replicate, length-set, length-replicate}
use lib.Seq.{get_or-set_same, get_or-set_other}
use Rattle.rings.specs.Count.{occ, sum_to}
use Rattle.rings.proofs.Counting.{one_here, apart}
use Rattle.rings.proofs.Tables.{elsewhere}
use Rattle.job.specs.Limits.{POINTS}
use Rattle.store.specs.Field.{pt, NEXT, PREV}
use Rattle.store.specs.Words.{Store, view}
use Rattle.store.specs.Named.{points_of, records_of}
use Rattle.store.specs.Sound.{ring_at}
use Rattle.joins.specs.Resolved.{Ready}
use Rattle.joins.proofs.Homes.{table}
use Rattle.drawing.proofs.Places.{occ_at}
use Rattle.numbering.specs.Numbers.{number_on, number_to}
use Rattle.rewriting.specs.Fields.{numbers_of}
use Rattle.numbering.proofs.Rounds.{next_is, length_on}

-- ---- the points of one list

other : (k : ℕ) (l : List ℕ) (a : ℕ) (t : List ℕ) → occ k l ≡ 0 → get_or (number_on l a t).numbers k 0 ≡ get_or t k 0
unfolding number_on
other k [] a t h = refl
other k (x ∷ l) a t h = other k l (suc a) (set t x a) (omega arith) ∙ get_or-set_other t x k a 0 (λ e. (apart k (x ∷ l) h).0 (sym e))

here : (l : List ℕ) (a : ℕ) (t : List ℕ) (p : ℕ) → ((k : ℕ) → occ k l ≤ 1) → ((k : ℕ) → 0 < occ k l → k < length t) → p < length l → get_or (number_on l a t).numbers (get_or l p 0) 0 ≡ a + p
unfolding number_on
here [] a t p o b h = absurd (omega arith)
here (x ∷ l) a t zero o b h =
    other x l (suc a) (set t x a) (omega (arith, o x, one_here x)) ∙ get_or-set_same t x a 0 (b x (omega (arith, one_here x))) ∙ (let z : a ≡ a + 0 = omega arith in z)
here (x ∷ l) a t (suc p) o b h =
    here l (suc a) (set t x a) p (λ k. omega (arith, o k)) (λ k q. rw (length-set t x a) (b k (omega arith))) (omega arith) ∙ (let z : suc a + p ≡ a + suc p = omega arith in z)

-- ---- all rings

-- how many points come before ring i
abbrev pub points_before : Store → ℕ → ℕ
points_before s i = sum_to i (λ j. length (ring_at s j))

next_to : (s : Store) (i : ℕ) (t : List ℕ) → (number_to s i t).next ≡ points_before s i
unfolding number_to
next_to s zero t = refl
next_to s (suc i) t = next_is (ring_at s i) (number_to s i t).next (number_to s i t).numbers ∙ ap (λ (k : ℕ). k + length (ring_at s i)) (next_to s i t)

length_to : (s : Store) (i : ℕ) (t : List ℕ) → length (number_to s i t).numbers ≡ length t
unfolding number_to
length_to s zero t = refl
length_to s (suc i) t = length_on (ring_at s i) (number_to s i t).next (number_to s i t).numbers ∙ length_to s i t

module _ (w : List ℕ) (o : Ready w) where
  numbered_to : (n : ℕ) → n ≤ records_of w → (i p : ℕ) → i < n → p < length (ring_at (view w) i) → get_or (number_to (view w) n (replicate POINTS 0)).numbers (get_or (ring_at (view w) i) p 0) 0 ≡ points_before (view w) i + p
  unfolding number_to
  numbered_to zero h i p l b = absurd (omega arith)
  numbered_to (suc n) h i p l b = go (ℕ_discrete i n) (λ m. numbered_to n (omega arith) i p m b)
    where
      low : (k : ℕ) → 0 < occ k (ring_at (view w) n) → k < length (number_to (view w) n (replicate POINTS 0)).numbers
      low k q = omega (arith, (o.resolved.whole n (omega arith)).below k q, o.resolved.few_points, length_to (view w) n (replicate POINTS 0), length-replicate {A = ℕ} POINTS 0)

      last : (p : ℕ) → p < length (ring_at (view w) n) → get_or (number_to (view w) (suc n) (replicate POINTS 0)).numbers (get_or (ring_at (view w) n) p 0) 0 ≡ points_before (view w) n + p
      last p b =
          here (ring_at (view w) n) (number_to (view w) n (replicate POINTS 0)).next (number_to (view w) n (replicate POINTS 0)).numbers p (o.resolved.whole n (omega arith)).once low b
          ∙ ap (λ (k : ℕ). k + p) (next_to (view w) n (replicate POINTS 0))

      go : Dec (i ≡ n) → (i < n → get_or (number_to (view w) n (replicate POINTS 0)).numbers (get_or (ring_at (view w) i) p 0) 0 ≡ points_before (view w) i + p)
          → get_or (number_to (view w) (suc n) (replicate POINTS 0)).numbers (get_or (ring_at (view w) i) p 0) 0 ≡ points_before (view w) i + p
      go (yes e) r =
          subst (λ (j : ℕ). p < length (ring_at (view w) j) → get_or (number_to (view w) (suc n) (replicate POINTS 0)).numbers (get_or (ring_at (view w) j) p 0) 0 ≡ points_before (view w) j + p) (sym e) (last p) b
      go (no d) r =
          let k = get_or (ring_at (view w) i) p 0 in
          let z : occ k (ring_at (view w) n) ≡ 0 =
          elsewhere (view w (pt NEXT)) (view w (pt PREV)) (points_of w) (records_of w) (ring_at (view w)) (table (view w) o.resolved) i n k (omega arith) (omega arith) d (occ_at p (ring_at (view w) i) b)
          in
          other k (ring_at (view w) n) (number_to (view w) n (replicate POINTS 0)).next (number_to (view w) n (replicate POINTS 0)).numbers z ∙ r (omega arith)

  -- THE LAW
  pub new_number_lem : (i p : ℕ) → i < records_of w → p < length (ring_at (view w) i) → get_or (numbers_of w) (get_or (ring_at (view w) i) p 0) 0 ≡ points_before (view w) i + p
  unfolding numbers_of
  new_number_lem i p h l = numbered_to (records_of w) (omega arith) i p h l
