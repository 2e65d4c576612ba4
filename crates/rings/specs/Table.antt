-- Many rings at once: a list for each record below m, disjoint by counting. A list may begin at any point of its ring.
use Rattle.std.specs.Prelude.{ℕ, ◌≤◌, ◌<◌, ◌≡◌, ◌≢◌, cond, List, [], eqb}
use Rattle.job.specs.Limits.{NONE}
use Rattle.rings.specs.Count.{sum_to, occ}
use Rattle.rings.specs.Walk.{walk}
use Rattle.rings.specs.Whole.{Whole}

-- how often k is on the rings of the records below m
abbrev pub total : (ℕ → List ℕ) → ℕ → ℕ → ℕ
total ring m k = sum_to m (λ i. occ k (ring i))

-- each ring is whole, of points below q, and no point is on two of them
pub record Table (n p : ℕ → ℕ) (q m : ℕ) (ring : ℕ → List ℕ) : Type 0 where
  pub whole : (i : ℕ) → i < m → Whole n p q (ring i)
  pub once : (k : ℕ) → total ring m k ≤ 1

-- the table with c at i
abbrev pub with : (ℕ → List ℕ) → ℕ → List ℕ → ℕ → List ℕ
with ring i c j = cond (eqb j i) c (ring j)

-- the ring from its first point f, or from none
abbrev pub ring_from : (ℕ → ℕ) → ℕ → List ℕ
ring_from n f = cond (eqb f NONE) [] (walk n f)

-- f is the first point of the ring c
pub data Starts (f : ℕ) (c : List ℕ) : Type 0 where
  nowhere : f ≡ NONE → c ≡ [] → Starts f c
  on_it : f ≢ NONE → 0 < occ f c → Starts f c
