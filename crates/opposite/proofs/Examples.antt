-- Rings with neighbours at one place, by computing: their paths forward and reversed, and what `Turned` refuses.
use Prim.Native.Nat.{ℕ}
use mathlib.Core.Path.{◌≡◌, refl, ap}
use mathlib.Core.Bool.{true, false}
use mathlib.Core.List.{List, [], ◌∷◌, map}
use mathlib.Core.Option.{some}
use native.Mathlib.Omega.{arith}
use lib.IntN.{pos}
use lib.ListN.{get_or}
use Rattle.geometry.specs.declared.Point.{Point}
use Rattle.geometry.specs.Plane.{same_point, pts_really_close, is_very_small_triangle}
use Rattle.lone.specs.Path.{in_order, build_path64_from_outpt}
use Rattle.lone.specs.Plane.{plane}
use Rattle.opposite.specs.Turned.{Turned}
use Rattle.opposite.proofs.Clusters.{walk_turned, only_turned}

abbrev at : ℕ → ℕ → ℕ → Point
at x y z = record { x = pos x; y = pos y; z = z }

-- ---- an open ring with two neighbours at 5,5: each path has the first that it walks

abbrev line : List Point
line = at 0 0 1 ∷ at 5 5 2 ∷ at 5 5 3 ∷ at 9 0 4 ∷ []

abbrev forth : List Point
forth = at 5 5 2 ∷ at 9 0 4 ∷ at 0 0 1 ∷ []

abbrev back : List Point
back = at 0 0 1 ∷ at 9 0 4 ∷ at 5 5 3 ∷ []

pub line_forward : build_path64_from_outpt (plane false) false true line ≡ some forth
unfolding build_path64_from_outpt same_point
line_forward = refl

pub line_reversed : build_path64_from_outpt (plane false) true true line ≡ some back
unfolding build_path64_from_outpt same_point
line_reversed = refl

pub line_turned : Turned (in_order false line) forth back
unfolding same_point
line_turned = walk_turned false (in_order false line)

-- ---- a closed ring, with two neighbours at 9,0 and three at 9,9

abbrev ring : List Point
ring = at 0 0 1 ∷ at 9 0 2 ∷ at 9 0 3 ∷ at 9 9 4 ∷ at 9 9 5 ∷ at 9 9 6 ∷ []

pub ring_forward : build_path64_from_outpt (plane true) false false ring ≡ some (at 9 0 2 ∷ at 9 9 4 ∷ at 0 0 1 ∷ [])
unfolding build_path64_from_outpt same_point pts_really_close is_very_small_triangle
ring_forward = refl

pub ring_reversed : build_path64_from_outpt (plane true) true false ring ≡ some (at 0 0 1 ∷ at 9 9 6 ∷ at 9 0 3 ∷ [])
unfolding build_path64_from_outpt same_point pts_really_close is_very_small_triangle
ring_reversed = refl

-- ---- "not a last point equal to the first": the ring's first two points are at one place and stand at the two ends of the walk, so both stay, each with its z

abbrev ends : List Point
ends = at 0 0 1 ∷ at 0 0 2 ∷ at 5 5 3 ∷ at 9 0 4 ∷ []

pub ends_forward : build_path64_from_outpt (plane false) false true ends ≡ some (at 0 0 2 ∷ at 5 5 3 ∷ at 9 0 4 ∷ at 0 0 1 ∷ [])
unfolding build_path64_from_outpt same_point
ends_forward = refl

pub ends_reversed : build_path64_from_outpt (plane false) true true ends ≡ some (at 0 0 1 ∷ at 9 0 4 ∷ at 5 5 3 ∷ at 0 0 2 ∷ [])
unfolding build_path64_from_outpt same_point
ends_reversed = refl

-- ---- what is refused

abbrev depths : List Point → List ℕ
depths path = map (λ (p : Point). p.z) path

-- the same order
pub not_the_same_order : Turned (in_order false line) forth forth → ⊥
unfolding same_point
not_the_same_order t = let e : ◌≡◌ {A = ℕ} 2 1 = ap (λ (path : List Point). get_or (depths path) 0 0) (only_turned false (in_order false line) forth forth t).1 in omega arith

-- of 5,5 the z that the other path has
pub not_the_other_end : Turned (in_order false line) forth (at 0 0 1 ∷ at 9 0 4 ∷ at 5 5 2 ∷ []) → ⊥
unfolding same_point
not_the_other_end t = let e : ◌≡◌ {A = ℕ} 2 3 = ap (λ (path : List Point). get_or (depths path) 2 0) (only_turned false (in_order false line) forth (at 0 0 1 ∷ at 9 0 4 ∷ at 5 5 2 ∷ []) t).1 in omega arith

-- another z where nothing was dropped
pub not_another_depth : Turned (in_order false line) forth (at 0 0 1 ∷ at 9 0 7 ∷ at 5 5 3 ∷ []) → ⊥
unfolding same_point
not_another_depth t = let e : ◌≡◌ {A = ℕ} 7 4 = ap (λ (path : List Point). get_or (depths path) 1 0) (only_turned false (in_order false line) forth (at 0 0 1 ∷ at 9 0 7 ∷ at 5 5 3 ∷ []) t).1 in omega arith
