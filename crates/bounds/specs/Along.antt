-- The box along a walk, by words: they are raised as coordinates are, so the least word is the least coordinate's.
use Rattle.std.specs.Prelude.{ℕ, Bool, cond, ◌&&◌, List, [], ◌∷◌, map, eqb, ltb}
use Rattle.std.proofs.Math.Option.{Option}
use Rattle.rings.specs.Walk.{walk}
use Rattle.geometry.specs.declared.Rect.{Rect}
use Rattle.geometry.specs.Box.{box_of}
use Rattle.store.specs.declared.boxed.Sides.{Sides}
use Rattle.store.specs.Field.{pt, X, Y, NEXT}
use Rattle.store.specs.Words.{Store}
use Rattle.store.specs.Value.{point_at}

abbrev pub least : ℕ → ℕ → ℕ
least a b = cond (ltb b a) b a

abbrev pub most : ℕ → ℕ → ℕ
most a b = cond (ltb a b) b a

-- one point's
abbrev pub point_sides : Store → ℕ → Sides
point_sides s k = record { left = s (pt X) k; top = s (pt Y) k; right = s (pt X) k; bottom = s (pt Y) k }

-- the least box that has the place of x and y too
unfoldable pub widen_by : Sides → ℕ → ℕ → Sides
widen_by b x y = record { left = least b.left x; top = least b.top y; right = most b.right x; bottom = most b.bottom y }

-- a further point's
abbrev pub widen_sides : Store → Sides → ℕ → Sides
widen_sides s b k = widen_by b (s (pt X) k) (s (pt Y) k)

abbrev pub widen_along : Store → Sides → List ℕ → Sides
widen_along s b [] = b
widen_along s b (k ∷ ks) = widen_along s (widen_sides s b k) ks

-- the box of the ring that starts at a
unfoldable pub box_from : Store → ℕ → Option Rect
box_from s a = box_of (map (point_at s) (walk (s (pt NEXT)) a))

abbrev pub same_sides : Sides → Sides → Bool
same_sides a b = eqb a.left b.left && (eqb a.top b.top && (eqb a.right b.right && eqb a.bottom b.bottom))
