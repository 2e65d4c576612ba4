-- The paths of a store under either setting: equally many, each the other's at its place in exactly opposite order, in x and y; and what each has of neighbours at one place. Of any store, sound or not.
use Prim.Native.Nat.{ℕ, zero, suc, ◌+◌, ◌-◌, ◌/◌, ◌%◌}
use mathlib.Core.Path.{◌≡◌, refl, sym, ap, ◌∙◌, subst}
use mathlib.Core.Bool.{Bool, true, false, cond, not, beq}
use mathlib.Core.List.{List, [], ◌∷◌, ◌++◌, reverse}
use mathlib.Core.Option.{Option, none}
use native.Mathlib.Omega.{arith}
use lib.Dec.{eqb}
use borrow.Author.Tests.{eqb-true, eqb-false}
use Rattle.geometry.specs.declared.Point.{Point}
use Rattle.rings.specs.Circle.{omap}
use Rattle.lone.specs.Path.{in_order, build_path64_from_outpt}
use Rattle.lone.specs.Plane.{plane}
use Rattle.store.specs.Field.{ct, SETTINGS}
use Rattle.store.specs.Words.{Store}
use Rattle.store.specs.Sound.{recs, is_open}
use Rattle.store.specs.Value.{preserve_collinear, reverse_solution}
use Rattle.paths.specs.Path.{point_at, points_at, path_at, path_if, listed, paths_below, closed_paths, open_paths}
use Rattle.opposite.specs.Opposite.{other_bits, turned_over, all_on_ground, opposite}
use Rattle.opposite.specs.Turned.{TurnedOr, neither, both, AllTurned, walk_at, walk_if, walks_below}
use Rattle.opposite.proofs.Keyed.{order_other}
use Rattle.opposite.proofs.Paths.{both_ways}

-- bit 0 stays, bit 1 is the other
pub kept_bit : (v : ℕ) → other_bits v % 2 ≡ v % 2
kept_bit v = go (eqb (v / 2 % 2) 1) refl
  where
    go : (b : Bool) → eqb (v / 2 % 2) 1 ≡ b → cond b (v - 2) (v + 2) % 2 ≡ v % 2
    go true e = omega (arith, eqb-true (v / 2 % 2) 1 e)
    go false e = omega arith

pub other_bit : (v : ℕ) → eqb (other_bits v / 2 % 2) 1 ≡ not (eqb (v / 2 % 2) 1)
other_bit v = go (eqb (v / 2 % 2) 1) refl
  where
    go : (b : Bool) → eqb (v / 2 % 2) 1 ≡ b → eqb (cond b (v - 2) (v + 2) / 2 % 2) 1 ≡ not b
    go true e = let z : (v - 2) / 2 % 2 ≡ 0 = omega (arith, eqb-true (v / 2 % 2) 1 e) in rw z
    go false e = let z : (v + 2) / 2 % 2 ≡ 1 = omega (arith, eqb-false (v / 2 % 2) 1 e) in rw z

-- ---- lists, place by place

both_listed : (c : List Point) (x y : Option (List Point)) → TurnedOr c x y → AllTurned (listed (omap (λ (path : List Point). c) x)) (listed x) (listed y)
both_listed c x y neither = tt
both_listed c x y (both t) = (t, tt)

all_append : (cs ps qs ws xs ys : List (List Point)) → AllTurned cs ps qs → AllTurned ws xs ys → AllTurned (cs ++ ws) (ps ++ xs) (qs ++ ys)
all_append [] [] [] ws xs ys h k = k
all_append (c ∷ cs) (p ∷ ps) (q ∷ qs) ws xs ys h k = (h.0, all_append cs ps qs ws xs ys h.1 k)
all_append [] [] (q ∷ qs) ws xs ys h k = absurd h
all_append [] (p ∷ ps) qs ws xs ys h k = absurd h
all_append (c ∷ cs) [] qs ws xs ys h k = absurd h
all_append (c ∷ cs) (p ∷ ps) [] ws xs ys h k = absurd h

all_places : (cs ps qs : List (List Point)) → AllTurned cs ps qs → all_on_ground qs ≡ opposite (all_on_ground ps)
all_places [] [] [] h = refl
all_places (c ∷ cs) (p ∷ ps) (q ∷ qs) h = rw (h.0.places, all_places cs ps qs h.1)
all_places [] [] (q ∷ qs) h = absurd h
all_places [] (p ∷ ps) qs h = absurd h
all_places (c ∷ cs) [] qs h = absurd h
all_places (c ∷ cs) (p ∷ ps) [] h = absurd h

module _ (s : Store) where
  pub reversed_other : reverse_solution (turned_over s) ≡ not (reverse_solution s)
  reversed_other = other_bit (s (ct SETTINGS) 0)

  -- the other path walks the ring the other way
  pub walk_other : (i : ℕ) → walk_at (turned_over s) i ≡ reverse (walk_at s i)
  unfolding point_at
  walk_other i = ap (λ (b : Bool). in_order b (points_at s i)) reversed_other ∙ order_other (reverse_solution s) (points_at s i)

  -- ring by ring
  pub path_other : (i : ℕ) → TurnedOr (walk_at s i) (path_at s i) (path_at (turned_over s) i)
  unfolding path_at point_at
  path_other i =
      subst (TurnedOr (walk_at s i) (path_at s i))
      (sym (ap (λ (n : ℕ). build_path64_from_outpt (plane (eqb n 1)) (reverse_solution (turned_over s)) (is_open s i) (points_at s i)) (kept_bit (s (ct SETTINGS) 0))
      ∙ ap (λ (b : Bool). build_path64_from_outpt (plane (preserve_collinear s)) b (is_open s i) (points_at s i)) reversed_other))
      (both_ways (preserve_collinear s) (reverse_solution s) (is_open s i) (points_at s i))

  if_other : (o : Bool) (i : ℕ) → TurnedOr (walk_at s i) (path_if s o i) (path_if (turned_over s) o i)
  unfolding path_if
  if_other o i = go (beq (is_open s i) o)
    where
      go : (b : Bool) → TurnedOr (walk_at s i) (cond b (path_at s i) none) (cond b (path_at (turned_over s) i) none)
      go true = path_other i
      go false = neither

  -- place by place
  pub all_other : (n : ℕ) (o : Bool) → AllTurned (walks_below n o s) (paths_below n o s) (paths_below n o (turned_over s))
  all_other zero o = tt
  all_other (suc n) o =
      all_append (walks_below n o s) (paths_below n o s) (paths_below n o (turned_over s)) (listed (walk_if s o n)) (listed (path_if s o n)) (listed (path_if (turned_over s) o n)) (all_other n o)
      (both_listed (walk_at s n) (path_if s o n) (path_if (turned_over s) o n) (if_other o n))

  -- in x and y
  pub below_other : (n : ℕ) (o : Bool) → all_on_ground (paths_below n o (turned_over s)) ≡ opposite (all_on_ground (paths_below n o s))
  below_other n o = all_places (walks_below n o s) (paths_below n o s) (paths_below n o (turned_over s)) (all_other n o)

  pub closed_other : all_on_ground (closed_paths (turned_over s)) ≡ opposite (all_on_ground (closed_paths s))
  closed_other = below_other (recs s) false

  pub open_other : all_on_ground (open_paths (turned_over s)) ≡ opposite (all_on_ground (open_paths s))
  open_other = below_other (recs s) true
