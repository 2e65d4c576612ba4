-- What a join leaves of the words, where it splits a ring and where it makes one of two; and what stays of open rings.
use Prim.Native.Nat.{ℕ, suc, ◌≤◌, ◌<◌}
use mathlib.Core.Path.{◌≡◌, refl, ap, ◌∙◌, sym, subst}
use mathlib.Core.Logic.{◌≢◌, ◌⊎◌}
use mathlib.Core.Bool.{Bool, true, false, cond}
use mathlib.Core.List.{List, [], ◌∷◌}
use native.Mathlib.Omega.{arith}
use Rattle.job.specs.Limits as limit
use Rattle.rings.specs.Count.{occ}
use Rattle.rings.specs.Walk.{walk}
use Rattle.rings.specs.Relink.{Crossed}
use Rattle.rings.proofs.Walking.{run_agree}
use Rattle.rings.proofs.Tables.{elsewhere}
use Rattle.store.specs.Field.{pt, rc, X, Y, Z, NEXT, PREV, REC, FLAGS, OWNER, FIRST, REASON, TAKER, NONE}
use Rattle.store.specs.Words.{Store}
use Rattle.store.specs.Sound.{pts, recs, ringless, ring_at, is_open}
use Rattle.store.specs.Reason.{JOINED}
use Rattle.joins.specs.Paths.{Lives}
use Rattle.joins.specs.Resolved.{Resolved}
use Rattle.joins.proofs.Resolving.{res_same}
use Rattle.joins.proofs.Homes.{table}

-- the ring of record i is a, l.., b, r..; a new record takes b, l..
pub record Split (s u : Store) (a b i : ℕ) (l r : List ℕ) : Type 0 where
  pub crossed : Crossed (s (pt NEXT)) (s (pt PREV)) (u (pt NEXT)) (u (pt PREV)) a b
  pub points : pts u ≡ pts s
  pub records : recs u ≡ suc (recs s)
  pub first_new : 0 < occ (u (rc FIRST) (recs s)) (b ∷ l)
  pub first_own : 0 < occ (u (rc FIRST) i) (a ∷ r)
  pub first_else : (j : ℕ) → j ≢ i → j ≢ recs s → u (rc FIRST) j ≡ s (rc FIRST) j
  pub owner_new : u (rc OWNER) (recs s) ≡ i
  pub owner_else : (j : ℕ) → j ≢ recs s → u (rc OWNER) j ≡ s (rc OWNER) j
  pub reasons : (j : ℕ) → u (rc REASON) j ≡ s (rc REASON) j
  pub takers : (j : ℕ) → u (rc TAKER) j ≡ s (rc TAKER) j
  pub named_new : (k : ℕ) → 0 < occ k (b ∷ l) → u (pt REC) k ≡ recs s
  pub named_own : (u (pt REC) a ≡ s (pt REC) a) ⊎ (u (pt REC) a ≡ i)
  pub named_else : (k : ℕ) → occ k (b ∷ l) ≡ 0 → k ≢ a → u (pt REC) k ≡ s (pt REC) k
  pub xs : (k : ℕ) → u (pt X) k ≡ s (pt X) k
  pub ys : (k : ℕ) → u (pt Y) k ≡ s (pt Y) k
  pub zs : (k : ℕ) → u (pt Z) k ≡ s (pt Z) k
  pub flags_new : u (rc FLAGS) (recs s) ≡ 0
  pub flags_else : (j : ℕ) → j ≢ recs s → u (rc FLAGS) j ≡ s (rc FLAGS) j

-- a is on the ring of record i, b on that of record j; j is emptied, and owned by i
pub record Merged (s u : Store) (a b i j : ℕ) : Type 0 where
  pub crossed : Crossed (s (pt NEXT)) (s (pt PREV)) (u (pt NEXT)) (u (pt PREV)) a b
  pub points : pts u ≡ pts s
  pub records : recs u ≡ recs s
  pub first_gone : u (rc FIRST) j ≡ NONE
  pub first_else : (x : ℕ) → x ≢ j → u (rc FIRST) x ≡ s (rc FIRST) x
  pub owner_gone : u (rc OWNER) j ≡ i
  pub owner_else : (x : ℕ) → x ≢ j → u (rc OWNER) x ≡ s (rc OWNER) x
  pub reason_gone : u (rc REASON) j ≡ JOINED
  pub reason_else : (x : ℕ) → x ≢ j → u (rc REASON) x ≡ s (rc REASON) x
  pub taker_gone : u (rc TAKER) j ≡ i
  pub taker_else : (x : ℕ) → x ≢ j → u (rc TAKER) x ≡ s (rc TAKER) x
  pub named : (k : ℕ) → u (pt REC) k ≡ s (pt REC) k
  pub xs : (k : ℕ) → u (pt X) k ≡ s (pt X) k
  pub ys : (k : ℕ) → u (pt Y) k ≡ s (pt Y) k
  pub zs : (k : ℕ) → u (pt Z) k ≡ s (pt Z) k
  pub flags : (j : ℕ) → u (rc FLAGS) j ≡ s (rc FLAGS) j

-- the point is on no open ring
abbrev pub Shut : Store → ℕ → Type 0
Shut s k = (i : ℕ) → Lives s i k → is_open s i ≡ false

-- open rings stay as they are; no new record is open; and points on closed rings stay on closed rings
pub record OpenKept (s u : Store) : Type 0 where
  pub records : recs s ≤ recs u
  pub points : pts s ≤ pts u
  pub flags : (i : ℕ) → i < recs s → u (rc FLAGS) i ≡ s (rc FLAGS) i
  pub new : (i : ℕ) → recs s ≤ i → i < recs u → is_open u i ≡ false
  pub rings : (i : ℕ) → i < recs s → is_open s i ≡ true → ring_at u i ≡ ring_at s i
  pub xs : (k : ℕ) → k < pts s → u (pt X) k ≡ s (pt X) k
  pub ys : (k : ℕ) → k < pts s → u (pt Y) k ≡ s (pt Y) k
  pub zs : (k : ℕ) → k < pts s → u (pt Z) k ≡ s (pt Z) k
  pub shut : (k : ℕ) → k < pts s → Shut s k → Shut u k

-- a ring whose first point and links stay
pub ring_kept : (s u : Store) (j : ℕ) → u (rc FIRST) j ≡ s (rc FIRST) j → ((k : ℕ) → 0 < occ k (ring_at s j) → u (pt NEXT) k ≡ s (pt NEXT) k) → ring_at u j ≡ ring_at s j
ring_kept s u j e f = rw e (go (ringless s j) refl)
  where
    go : (z : Bool) → ringless s j ≡ z → cond z [] (walk (u (pt NEXT)) (s (rc FIRST) j)) ≡ cond z [] (walk (s (pt NEXT)) (s (rc FIRST) j))
    go true d = refl
    go false d = run_agree (s (pt NEXT)) (u (pt NEXT)) (s (rc FIRST) j) limit.POINTS (s (rc FIRST) j) (λ k p. f k (rw d p))

-- a point that lives on a closed ring lives on no open one
pub shut_by : (u : Store) (i k : ℕ) → Lives u i k → is_open u i ≡ false → Shut u k
shut_by u i k z e j y = subst (λ (x : ℕ). is_open u x ≡ false) (res_same u (u (pt REC) k) i j z.res y.res) e

pub differ : (s : Store) (i j : ℕ) → is_open s i ≡ true → is_open s j ≡ false → i ≢ j
differ s i j a b e = let z : ◌≡◌ {A = Bool} true false = sym a ∙ ap (is_open s) e ∙ b in let y : ◌≡◌ {A = ℕ} 0 1 = cc in omega arith

-- points of two rings differ
pub apart : (s : Store) → Resolved s → (m t : ℕ) → m < recs s → t < recs s → t ≢ m → (k x : ℕ) → 0 < occ k (ring_at s t) → 0 < occ x (ring_at s m) → k ≢ x
apart s o m t hm ht d k x p y e = omega (arith, subst (λ (v : ℕ). occ v (ring_at s t) ≡ 0) (sym e) (elsewhere (s (pt NEXT)) (s (pt PREV)) (pts s) (recs s) (ring_at s) (table s o) m t x hm ht (λ v. d (sym v)) y))
