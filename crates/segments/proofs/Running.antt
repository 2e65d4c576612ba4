-- The loops of the level walks: each moves until its test holds, which it does at the latest at the stop, or before it.
use Prim.Native.Nat.{ℕ, zero, suc, ◌≤◌, ◌<◌}
use mathlib.Core.Path.{◌≡◌, refl, ap, ◌∙◌, sym}
use mathlib.Core.Logic.{◌⊎◌, inl, inr}
use mathlib.Core.Bool.{Bool, true, false, cond, ◌||◌, not}
use mathlib.Core.List.{List}
use native.Mathlib.Omega.{arith}
use lib.Dec.{eqb, ltb}
use borrow.Author.Tests.{eq-eqb, lt-ltb}
use Rattle.job.specs.Limits as limit
use Rattle.store.specs.Words.{view}
use Rattle.store.specs.Named.{points_of, records_of, first_of, next_of, prev_of}
use Rattle.joins.specs.Paths.{Lives}
use Rattle.joins.specs.Resolved.{Ready}
use Rattle.joins.specs.Needs.{Point}
use Rattle.joins.proofs.Homes.{home_of_lem, next_lives, prev_lives}
use Rattle.joins.proofs.Homes as homes
use Rattle.segments.specs.declared.level.Halt.{Halt}
use Rattle.segments.specs.declared.level.Halt.TheVariants.{Wall, Stop, Limit}
use Rattle.segments.specs.Level.{x_of, y_of, along_of, until, at_wall, at_stop, at_limit, wall_run, stop_run, limit_run, halts_at, run_of}
use Rattle.segments.specs.Needs.{Together, Bounded, Ending, Home}
use Rattle.segments.proofs.Walks.{First, Steps, forwards, backwards}

-- how often a walk moves: a loop's measure
unfoldable pub moves : ℕ → (ℕ → Bool) → (ℕ → ℕ) → ℕ → ℕ
moves zero t g p = 0
moves (suc f) t g p = cond (t p) 0 (suc (moves f t g (g p)))

-- t holds after at most d moves
abbrev pub Due : (ℕ → Bool) → (ℕ → ℕ) → ℕ → ℕ → Type 0
Due t g p zero = t p ≡ true
Due t g p (suc d) = (t p ≡ true) ⊎ Due t g (g p) d

module _ (t : ℕ → Bool) (g : ℕ → ℕ) where
  -- the walk comes to stop, where t holds
  pub due_at : (stop : ℕ) → t stop ≡ true → (p d : ℕ) → First g stop p d → Due t g p d
  due_at stop h p zero f = ap t f ∙ h
  due_at stop h p (suc d) f = inr (due_at stop h (g p) d f.1)

  -- it would come to stop, and t holds before
  pub due_before : (stop : ℕ) → ((x : ℕ) → g x ≡ stop → t x ≡ true) → (p d : ℕ) → First g stop (g p) d → Due t g p d
  due_before stop h p zero f = h p f
  due_before stop h p (suc d) f = inr (due_before stop h (g p) d f.1)

  due_less : (p d : ℕ) → Due t g p d → t p ≡ false → (e : ℕ) × (d ≡ suc e) × Due t g (g p) e
  due_less p zero h f =
      let z : ◌≡◌ {A = Bool} true false = sym h ∙ f in
      absurd (tell z)
    where
      tell : ◌≡◌ {A = Bool} true false → ⊥
      tell z = let y : ◌≡◌ {A = ℕ} 0 1 = cc in omega arith
  due_less p (suc d) (inl h) f =
      let z : ◌≡◌ {A = Bool} true false = sym h ∙ f in
      let y : ◌≡◌ {A = ℕ} 0 1 = cc in
      absurd (omega arith)
  due_less p (suc d) (inr h) f = (d, refl, h)

  until_stop : (f p : ℕ) → t p ≡ true → until f t g p ≡ p
  unfolding until
  until_stop zero p h = refl
  until_stop (suc f) p h = rw h

  until_on : (f p : ℕ) → t p ≡ false → until (suc f) t g p ≡ until f t g (g p)
  unfolding until
  until_on f p h = rw h

  moves_same : (m n p d : ℕ) → Due t g p d → d < m → d < n → moves m t g p ≡ moves n t g p
  unfolding moves
  moves_same zero n p d h a b = absurd (omega arith)
  moves_same (suc m) zero p d h a b = absurd (omega arith)
  moves_same (suc m) (suc n) p d h a b = go (t p) refl (λ k (l : d ≡ suc k) u. moves_same m n (g p) k u (omega arith) (omega arith))
    where
      go : (z : Bool) → t p ≡ z → ((k : ℕ) → d ≡ suc k → Due t g (g p) k → moves m t g (g p) ≡ moves n t g (g p)) → cond (t p) 0 (suc (moves m t g (g p))) ≡ cond (t p) 0 (suc (moves n t g (g p)))
      go true e f = rw e
      go false e f =
          let y = due_less p d h e in
          rw e (ap suc (f y.0 y.1 y.2))

  moves_on : (m p : ℕ) → t p ≡ false → moves (suc m) t g p ≡ suc (moves m t g (g p))
  unfolding moves
  moves_on m p h = rw h

-- where a loop stands that will answer F
pub record Going (F : ℕ) (w : List ℕ) (t : ℕ → Bool) (g : ℕ → ℕ) (p : ℕ) : Type 0 where
  pub ready : Ready w
  pub at : ℕ
  pub here : Lives (view w) at p
  pub left : ℕ
  pub due : Due t g p left
  pub short : left < limit.POINTS
  pub fuel : ℕ
  pub enough : left < fuel
  pub goes : until fuel t g p ≡ F

pub low : (F : ℕ) (w : List ℕ) (t : ℕ → Bool) (g : ℕ → ℕ) (p : ℕ) → Going F w t g p → p < limit.POINTS
low F w t g p s =
    let h : p < points_of w = s.here.bound in
    let k : points_of w ≤ limit.POINTS = s.ready.resolved.few_points in
    omega arith

pub along_lives : (w : List ℕ) → Ready w → (on : Bool) (i p : ℕ) → Lives (view w) i p → Lives (view w) i (along_of w on p)
unfolding along_of
along_lives w o true i p h = next_lives (view w) o.resolved i p h
along_lives w o false i p h = prev_lives (view w) o.resolved i p h

pub steps : (w : List ℕ) → Ready w → (on : Bool) (i p q : ℕ) → Lives (view w) i p → Lives (view w) i q → Steps (along_of w on) q p
unfolding along_of
steps w o true i p q a b = forwards (view w) o.resolved i p q a b
steps w o false i p q a b = backwards (view w) o.resolved i p q a b

fuel_suc : (f d : ℕ) → d < f → (e : ℕ) × (f ≡ suc e)
fuel_suc zero d h = absurd (omega arith)
fuel_suc (suc e) d h = (e, refl)

module _ (F : ℕ) (w : List ℕ) (on : Bool) (t : ℕ → Bool) (p : ℕ) (s : Going F w t (along_of w on) p) where
  pub point : Point w p
  point = record { ready = s.ready; low = s.here.bound }

  pub end : (b : Bool) → b ≡ t p → b ≡ true → p ≡ F
  end b a h = sym (until_stop t (along_of w on) s.fuel p (sym a ∙ h)) ∙ s.goes

  module _ (q : ℕ) (b : Bool) (a : b ≡ t p) (f : b ≡ false) (e : q ≡ along_of w on p) where
    h : t p ≡ false
    h = sym a ∙ f

    pub next : Going F w t (along_of w on) q
    next =
        let y = due_less t (along_of w on) p s.left s.due h in
        let z = fuel_suc s.fuel s.left s.enough in
        rw e (
        record {
          ready = s.ready;
          at = s.at;
          here = along_lives w s.ready on s.at p s.here;
          left = y.0;
          due = y.2;
          short = omega (arith, s.short, y.1);
          fuel = z.0;
          enough = omega (arith, s.enough, y.1, z.1);
          goes = sym (until_on t (along_of w on) z.0 p h) ∙ (rw z.1 at s.goes);
        }
        )

    pub falls : moves limit.POINTS t (along_of w on) q < moves limit.POINTS t (along_of w on) p
    falls =
        let y = due_less t (along_of w on) p s.left s.due h in
        let a = moves_on t (along_of w on) 2047 p h in
        let b = moves_same t (along_of w on) 2047 limit.POINTS (along_of w on p) y.0 y.2 (omega (arith, s.short, y.1)) (omega (arith, s.short, y.1)) in
        rw e (omega (arith, a, b))

-- ---- the three tests

begun : (w : List ℕ) → Ready w → (on : Bool) (t : ℕ → Bool) (i p d : ℕ) → Lives (view w) i p → Due t (along_of w on) p d → d < limit.POINTS → Going (until limit.POINTS t (along_of w on) p) w t (along_of w on) p
begun w o on t i p d h u l = record { ready = o; at = i; here = h; left = d; due = u; short = l; fuel = limit.POINTS; enough = l; goes = refl }

wall_here : (w : List ℕ) (on : Bool) (wall y : ℕ) → at_wall w on wall y wall ≡ true
unfolding at_wall
wall_here w on wall y = rw (eq-eqb wall wall refl)

stop_here : (w : List ℕ) (on : Bool) (stop y x : ℕ) → along_of w on x ≡ stop → at_stop w on stop y x ≡ true
unfolding at_stop
stop_here w on stop y x e = rw (eq-eqb (along_of w on x) stop e)

limit_here : (w : List ℕ) (on : Bool) (far y r : ℕ) → far < x_of w r → (x : ℕ) → along_of w on x ≡ r → at_limit w on far y x ≡ true
unfolding at_limit
limit_here w on far y r h x e = rw (e, lt-ltb far (x_of w r) h)

wall_begun : (w : List ℕ) (on : Bool) (wall y p : ℕ) → Together w p wall → Going (wall_run w on wall y p) w (at_wall w on wall y) (along_of w on) p
unfolding wall_run
wall_begun w on wall y p s =
    let z = steps w s.ready on s.at p wall s.one s.two in
    begun w s.ready on (at_wall w on wall y) s.at p z.many s.one (due_at (at_wall w on wall y) (along_of w on) wall (wall_here w on wall y) p z.many z.first) z.few

stop_begun : (w : List ℕ) (on : Bool) (stop y p : ℕ) → Together w p stop → Going (stop_run w on stop y p) w (at_stop w on stop y) (along_of w on) p
unfolding stop_run
stop_begun w on stop y p s =
    let z = steps w s.ready on s.at (along_of w on p) stop (along_lives w s.ready on s.at p s.one) s.two in
    begun w s.ready on (at_stop w on stop y) s.at p z.many s.one (due_before (at_stop w on stop y) (along_of w on) stop (stop_here w on stop y) p z.many z.first) z.few

limit_begun : (w : List ℕ) (on : Bool) (far y p : ℕ) → Bounded w p far → Going (limit_run w on far y p) w (at_limit w on far y) (along_of w on) p
unfolding limit_run
limit_begun w on far y p u =
    let s = u.same in
    let z = steps w s.ready on s.at (along_of w on p) u.right (along_lives w s.ready on s.at p s.one) s.two in
    begun w s.ready on (at_limit w on far y) s.at p z.many s.one (due_before (at_limit w on far y) (along_of w on) u.right (limit_here w on far y u.right u.beyond) p z.many z.first) z.few

-- the walk by value
pub run_begun : (w : List ℕ) (on : Bool) (h : Halt) (y p : ℕ) → Ending w p h → Going (run_of w on h y p) w (halts_at w on h y) (along_of w on) p
run_begun w on (Wall k) y p s = wall_begun w on k y p s
run_begun w on (Stop k) y p s = stop_begun w on k y p s
run_begun w on (Limit k) y p s = limit_begun w on k y p s

-- its three tests
module _ (w : List ℕ) (on : Bool) (h : Halt) (y p q v k : ℕ) (a : q ≡ along_of w on p) (b : v ≡ y_of w q) where
  pub halts_wall : h ≡ Wall k → (eqb p k || not (eqb v y)) ≡ halts_at w on h y p
  unfolding at_wall
  halts_wall e = rw (e, b, a)

  pub halts_stop : h ≡ Stop k → (eqb q k || not (eqb v y)) ≡ halts_at w on h y p
  unfolding at_stop
  halts_stop e = rw (e, b, a)

  pub halts_limit : (x : ℕ) → x ≡ x_of w q → h ≡ Limit k → (ltb k x || not (eqb v y)) ≡ halts_at w on h y p
  unfolding at_limit
  halts_limit x c e = rw (e, b, c, a)

-- ---- the neighbour

pub along_yes : (w : List ℕ) (on : Bool) (p r : ℕ) → on ≡ true → r ≡ next_of w p → r ≡ along_of w on p
unfolding along_of
along_yes w on p r e f = rw e f

pub along_no : (w : List ℕ) (on : Bool) (p r : ℕ) → on ≡ false → r ≡ prev_of w p → r ≡ along_of w on p
unfolding along_of
along_no w on p r e f = rw e f

pub along_low : (w : List ℕ) (on : Bool) (p q : ℕ) → Point w p → q ≡ along_of w on p → q < limit.POINTS
along_low w on p q t e =
    let z = home_of_lem (view w) t.ready.resolved p t.low in
    let h : along_of w on p < points_of w = (along_lives w t.ready on z.0 p z.1).bound in
    let k : points_of w ≤ limit.POINTS = t.ready.resolved.few_points in
    omega arith

-- ---- both ends of a run

-- a walk stays on its ring
pub until_lives : (w : List ℕ) → Ready w → (on : Bool) (t : ℕ → Bool) (i f p : ℕ) → Lives (view w) i p → Lives (view w) i (until f t (along_of w on) p)
unfolding until
until_lives w o on t i zero p h = h
until_lives w o on t i (suc f) p h = go (t p) (until_lives w o on t i f (along_of w on p) (along_lives w o on i p h))
  where
    go : (z : Bool) → Lives (view w) i (until f t (along_of w on) (along_of w on p)) → Lives (view w) i (cond z p (until f t (along_of w on) (along_of w on p)))
    go true r = h
    go false r = r

first_lives : (w : List ℕ) (p i : ℕ) → Home w p i → Lives (view w) i (first_of w i)
first_lives w p i h = homes.first_lives (view w) h.ready.resolved i h.here.res.real h.here.res.some

pub home_low : (w : List ℕ) (p i : ℕ) → Home w p i → i < limit.RECORDS
home_low w p i h =
    let a : i < records_of w = h.here.res.real in
    let b : records_of w ≤ limit.RECORDS = h.ready.resolved.few_records in
    omega arith

pub first_point : (w : List ℕ) (p i a : ℕ) → Home w p i → a ≡ first_of w i → a < limit.POINTS
first_point w p i a h e =
    let b : first_of w i < points_of w = (first_lives w p i h).bound in
    let k : points_of w ≤ limit.POINTS = h.ready.resolved.few_points in
    omega arith

pub wall_on : (w : List ℕ) (p i a : ℕ) → Home w p i → a ≡ first_of w i → Together w p a
wall_on w p i a h e = rw e (record { ready = h.ready; at = i; one = h.here; two = first_lives w p i h })

pub wall_back : (w : List ℕ) (p i a z : ℕ) → Home w p i → a ≡ first_of w i → z ≡ next_of w a → Together w p z
wall_back w p i a z h e f = rw (f, e) (record { ready = h.ready; at = i; one = h.here; two = next_lives (view w) h.ready.resolved i (first_of w i) (first_lives w p i h) })

pub stop_on : (w : List ℕ) (p y one : ℕ) → Together w p p → one ≡ stop_run w false p y p → Together w p one
unfolding stop_run
stop_on w p y one s e = rw e (record { ready = s.ready; at = s.at; one = s.one; two = until_lives w s.ready false (at_stop w false p y) s.at limit.POINTS p s.one })
