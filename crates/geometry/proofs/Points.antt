-- The test of equality of points decides whether they are one place: it is an equivalence, and z has no part in it.
use mathlib.Core.Path.{◌≡◌, refl, sym, ap, ◌∙◌}
use mathlib.Core.Bool.{Bool, true, false, ◌&&◌, true≢false, false≢true}
use lib.IntN.{ℤ}
use Rattle.exact.specs.Equal.{eq_z}
use Rattle.exact.proofs.Size.{eq_z_true, eq_eq_z}
use Rattle.geometry.specs.declared.Point.{Point}
use Rattle.geometry.specs.Plane.{ground, same_point}

pub true_same : (p q : Point) → ground p ≡ ground q → same_point p q ≡ true
unfolding same_point
true_same p q e = rw (eq_eq_z p.x q.x (ap (λ (r : Point). r.x) e), eq_eq_z p.y q.y (ap (λ (r : Point). r.y) e))

pub same_true : (p q : Point) → same_point p q ≡ true → ground p ≡ ground q
unfolding same_point
same_true p q e = go (eq_z p.x q.x) (eq_z p.y q.y) (eq_z_true p.x q.x) (eq_z_true p.y q.y) e
  where
    both : p.x ≡ q.x → p.y ≡ q.y → ground p ≡ ground q
    both h k = ap (λ (x : ℤ). record { x = x; y = p.y; z = 0 }) h ∙ ap (λ (y : ℤ). record { x = q.x; y = y; z = 0 }) k

    go : (s t : Bool) → (s ≡ true → p.x ≡ q.x) → (t ≡ true → p.y ≡ q.y) → (s && t) ≡ true → ground p ≡ ground q
    go true true h k e = both (h refl) (k refl)
    go true false h k e = absurd (false≢true e)
    go false t h k e = absurd (false≢true e)

-- a point is equal to both or to neither of two that are one place
pub same_as : (x p q : Point) → same_point p q ≡ true → same_point x p ≡ same_point x q
unfolding same_point
same_as x p q e = ap (λ (r : Point). eq_z x.x r.x && eq_z x.y r.y) (same_true p q e)

pub same_refl : (p : Point) → same_point p p ≡ true
same_refl p = true_same p p refl

-- where a fact fails at one place, the points differ
pub same_false : (p q : Point) → (ground p ≡ ground q → ⊥) → same_point p q ≡ false
same_false p q n = go (same_point p q) (same_true p q)
  where
    go : (t : Bool) → (t ≡ true → ground p ≡ ground q) → t ≡ false
    go true h = absurd (n (h refl))
    go false h = refl

pub same_differ : (p q : Point) → same_point p q ≡ false → ground p ≡ ground q → ⊥
same_differ p q h e = true≢false (sym (true_same p q e) ∙ h)
