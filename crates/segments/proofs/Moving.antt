-- The invariant of the pairs: a segment's left point stays on its ring and strictly left of its right point, so both walks of a pair end.
use Prim.Native.Nat.{ℕ, zero, suc, ◌≤◌, ◌<◌}
use mathlib.Core.Path.{◌≡◌, refl, ap, ◌∙◌}
use mathlib.Core.Bool.{Bool, true, false, cond, ◌||◌, not}
use mathlib.Core.List.{List}
use native.Mathlib.Omega.{arith}
use borrow.Author.Tests.{ltb-false}
use Rattle.job.specs.Limits as limit
use Rattle.store.specs.Words.{view}
use Rattle.store.specs.Named.{points_of}
use Rattle.joins.specs.Paths.{Lives}
use Rattle.joins.specs.Resolved.{Ready}
use Rattle.segments.specs.Level.{x_of, along_of, until, at_limit, limit_run}
use Rattle.segments.specs.Needs.{Bounded}
use Rattle.segments.specs.Pair.{one_of, two_of}
use Rattle.segments.specs.Needs.{Span, Overlap, Meeting}
use Rattle.segments.proofs.Running.{along_lives}

-- what holds at p and is kept by each move holds where the walk ends
pub until_keeps : (P : ℕ → Type 0) (t : ℕ → Bool) (g : ℕ → ℕ) → ((x : ℕ) → P x → t x ≡ false → P (g x)) → (f p : ℕ) → P p → P (until f t g p)
unfolding until
until_keeps P t g k zero p h = h
until_keeps P t g k (suc f) p h = go (t p) refl (λ e. until_keeps P t g k f (g p) (k p h e))
  where
    go : (z : Bool) → t p ≡ z → (t p ≡ false → P (until f t g (g p))) → P (cond (t p) p (until f t g (g p)))
    go true e r = rw e h
    go false e r = rw e (r e)

or_false : (a b : Bool) → (a || b) ≡ false → a ≡ false
or_false true b e = e
or_false false b e = refl

within : (w : List ℕ) (on : Bool) (far y x : ℕ) → at_limit w on far y x ≡ false → x_of w (along_of w on x) ≤ far
unfolding at_limit
within w on far y x e = ltb-false far (x_of w (along_of w on x)) (or_false _ _ e)

-- where a pair's walk ends: on the ring, and not right of any bound that holds of its start and of the limit
pub record Ends (w : List ℕ) (i bound p : ℕ) : Type 0 where
  pub here : Lives (view w) i p
  pub left : x_of w p < bound

pub limit_ends : (w : List ℕ) → Ready w → (on : Bool) (far y i p bound : ℕ) → Lives (view w) i p → x_of w p < bound → far < bound → Ends w i bound (limit_run w on far y p)
unfolding limit_run
limit_ends w o on far y i p bound h a b =
    until_keeps (Ends w i bound) (at_limit w on far y) (along_of w on)
    (λ x z e. record { here = along_lives w o on i x z.here; left = omega (arith, within w on far y x e) })
    limit.POINTS p (record { here = h; left = a })

module _ (w : List ℕ) (on : Bool) (y l1 r1 l2 r2 : ℕ) (t : Overlap w l1 r1 l2 r2) where
  o : Ready w
  o = t.one.same.ready

  pub one_short : (m : ℕ) → m ≡ x_of w l2 → Bounded w l1 m
  one_short m e = rw e (record { right = r1; same = t.one.same; beyond = t.first })

  -- left of both right points
  one_left : Ends w t.one.same.at (x_of w r1) (one_of w on y l1 l2)
  unfolding one_of o
  one_left = limit_ends w o on (x_of w l2) y t.one.same.at l1 (x_of w r1) t.one.same.one t.one.wide t.first

  one_left' : Ends w t.one.same.at (x_of w r2) (one_of w on y l1 l2)
  unfolding one_of o
  one_left' = limit_ends w o on (x_of w l2) y t.one.same.at l1 (x_of w r2) t.one.same.one t.second t.two.wide

  pub two_short : (m k : ℕ) → m ≡ one_of w on y l1 l2 → k ≡ x_of w m → Bounded w l2 k
  two_short m k e f = rw (f, e) (record { right = r2; same = t.two.same; beyond = one_left'.left })

  two_left : Ends w t.two.same.at (x_of w r2) (two_of w on y l1 l2)
  unfolding two_of o
  two_left = limit_ends w o (not on) (x_of w (one_of w on y l1 l2)) y t.two.same.at l2 (x_of w r2) t.two.same.one t.two.wide one_left'.left

  -- the invariant is kept
  pub one_span : Span w (one_of w on y l1 l2) r1
  unfolding o
  one_span = record { same = record { ready = o; at = t.one.same.at; one = one_left.here; two = t.one.same.two }; wide = one_left.left }

  pub two_span : Span w (two_of w on y l1 l2) r2
  unfolding o
  two_span = record { same = record { ready = o; at = t.two.same.at; one = two_left.here; two = t.two.same.two }; wide = two_left.left }

-- and by a new point: x of the points there were stays, and so do their rings
pub span_grown : (w x : List ℕ) → Ready x → (l r : ℕ) → Span w l r → ((i k : ℕ) → Lives (view w) i k → Lives (view x) i k × (x_of x k ≡ x_of w k)) → Span x l r
span_grown w x o l r s f =
    let a = f s.same.at l s.same.one in
    let b = f s.same.at r s.same.two in
    record { same = record { ready = o; at = s.same.at; one = a.0; two = b.0 }; wide = rw (a.1, b.1) s.wide }

-- ---- the needs of move_pair

module _ (w : List ℕ) (l1 l2 m : ℕ) (t : Meeting w l1 l2) (e : m ≡ x_of w l2) where
  pub pair_one : Bounded w l1 m
  pair_one = one_short w true 0 l1 t.r1 l2 t.r2 t.overlap m e

  module _ (on : Bool) (y p : ℕ) (f : p ≡ limit_run w on m y l1) where
    is_one : p ≡ one_of w on y l1 l2
    unfolding one_of
    is_one = f ∙ ap (λ (x : ℕ). limit_run w on x y l1) e

    pub pair_low : p < limit.POINTS
    pair_low =
        let s = one_span w on y l1 t.r1 l2 t.r2 t.overlap in
        let h : one_of w on y l1 l2 < points_of w = s.same.one.bound in
        let k : points_of w ≤ limit.POINTS = s.same.ready.resolved.few_points in
        rw is_one (omega arith)

    pub pair_two : (k : ℕ) → k ≡ x_of w p → Bounded w l2 k
    pair_two k g = two_short w on y l1 t.r1 l2 t.r2 t.overlap p k is_one g

pub meeting_low : (w : List ℕ) (l1 l2 : ℕ) → Meeting w l1 l2 → l2 < limit.POINTS
meeting_low w l1 l2 t = omega (arith, t.overlap.two.same.one.bound, t.overlap.two.same.ready.resolved.few_points)
