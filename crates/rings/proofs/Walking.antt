-- The walk is the one linked list of distinct points from its place; a ring seen from any of its points.
use Prim.Native.Nat.{ℕ, zero, suc, ◌≤◌, ◌<◌}
use mathlib.Core.Path.{◌≡◌, refl, ap, ◌∙◌, sym, subst}
use mathlib.Core.Bool.{Bool, true, false, cond}
use mathlib.Core.List.{List, [], ◌∷◌, ◌++◌}
use mathlib.Core.Option.{some}
use native.Mathlib.Omega.{arith}
use lib.Dec.{eqb}
use Rattle.job.specs.Limits as limit
use lib.ListN.{length}
use borrow.Author.Tests.{eq-eqb, ne_eqb}
use Rattle.rings.specs.Circle.{spin, head_or}
use Rattle.rings.specs.Count.{occ}
use Rattle.rings.specs.Links.{Seg}
use Rattle.rings.specs.Place.{place}
use Rattle.rings.specs.Walk.{run, walk}
use Rattle.rings.specs.Whole.{Whole}
use Rattle.rings.proofs.Circles.{length_spin}
use Rattle.rings.proofs.Counting.{one_here, apart, occ_spin, pigeon}
use Rattle.rings.proofs.Linking.{linked_spin}
use Rattle.rings.proofs.Placing.{Placed, placed}

-- the walk reads the links of its own points only
pub run_agree : (n n' : ℕ → ℕ) (stop f a : ℕ) → ((k : ℕ) → 0 < occ k (run n stop f a) → n' k ≡ n k) → run n' stop f a ≡ run n stop f a
unfolding run
run_agree n n' stop zero a h = refl
run_agree n n' stop (suc f) a h = rw (h a (omega (arith, one_here a))) (ap (λ (l : List ℕ). a ∷ l) (go (eqb (n a) stop) refl (λ g. run_agree n n' stop f (n a) g)))
  where
    go : (b : Bool) → eqb (n a) stop ≡ b → (((k : ℕ) → 0 < occ k (run n stop f (n a)) → n' k ≡ n k) → run n' stop f (n a) ≡ run n stop f (n a))
        → cond b [] (run n' stop f (n a)) ≡ cond b [] (run n stop f (n a))
    go true e r = refl
    go false e r = r (λ k o. h k (rw e (omega arith)))

pub run_seg : (n p : ℕ → ℕ) (stop f a : ℕ) (l : List ℕ) → Seg n p (a ∷ l ++ (stop ∷ [])) → occ stop l ≡ 0 → length l < f → run n stop f a ≡ a ∷ l
unfolding run
run_seg n p stop zero a l s o h = absurd (omega arith)
run_seg n p stop (suc f) a [] s o h = rw (eq-eqb (n a) stop s.0)
run_seg n p stop (suc f) a (x ∷ l) s o h =
    rw (s.0, ne_eqb x stop (apart stop (x ∷ l) o).0, run_seg n p stop f x l s.2 (omega arith) (omega arith))

-- is the walk from its first point
pub ring_is : (n p : ℕ → ℕ) (m x : ℕ) (l : List ℕ) → m ≤ limit.POINTS → Whole n p m (x ∷ l) → walk n x ≡ x ∷ l
ring_is n p m x l h r = run_seg n p x limit.POINTS x l r.linked (omega (arith, r.once x, one_here x)) (omega (arith, pigeon m (x ∷ l) r.once r.below))

pub whole_spin : (n p : ℕ → ℕ) (m f : ℕ) (c : List ℕ) → Whole n p m c → Whole n p m (spin f c)
whole_spin n p m f c r = record { linked = linked_spin n p f c r.linked; once = λ k. rw (occ_spin k f c) (r.once k); below = λ k o. r.below k (rw (occ_spin k f c) at o) }

-- a ring seen from a point a that is on it
pub record Seen (n p : ℕ → ℕ) (m : ℕ) (c : List ℕ) (a : ℕ) : Type 0 where
  pub far : ℕ
  pub others : List ℕ
  pub is : place a c ≡ some far
  pub spun : spin far c ≡ a ∷ others
  pub walked : walk n a ≡ a ∷ others
  pub whole : Whole n p m (a ∷ others)
  pub occs : (k : ℕ) → occ k (a ∷ others) ≡ occ k c

pub seen : (n p : ℕ → ℕ) (m : ℕ) (c : List ℕ) (a : ℕ) → m ≤ limit.POINTS → Whole n p m c → 0 < occ a c → Seen n p m c a
seen n p m c a h r o = go (spin t.far c) refl
  where
    t : Placed a c
    t = placed a c o

    go : (l : List ℕ) → spin t.far c ≡ l → Seen n p m c a
    go [] e = absurd (omega (arith, t.short, length_spin t.far c, ap length e))
    go (y ∷ ys) e =
        let d : y ≡ a = sym (ap (head_or a) e) ∙ t.leads a in
        let f : spin t.far c ≡ a ∷ ys = e ∙ ap (λ (z : ℕ). z ∷ ys) d in
        let q : Whole n p m (a ∷ ys) = subst (Whole n p m) f (whole_spin n p m t.far c r) in
        record { far = t.far; others = ys; is = t.is; spun = f; walked = ring_is n p m a ys h q; whole = q; occs = λ k. sym (ap (occ k) f) ∙ occ_spin k t.far c }
