-- A ring's box from the box before the act: which acts can change it, by what a step has at hand.
use Rattle.std.specs.Prelude.{Bool, true, false, cond, ◌&&◌, ◌||◌, List, [], ◌∷◌, pos}
use Rattle.std.proofs.Math.Option.{Option, none, some}
use Rattle.std.specs.Int.Signed.{lt_z}
use Rattle.exact.specs.Equal.{eq_z}
use Rattle.rings.specs.Circle.{last_of, head_or}
use Rattle.rings.specs.Progress.{Ring}
use Rattle.geometry.specs.declared.Point.{Point}
use Rattle.geometry.specs.declared.Rect.{Rect}
use Rattle.geometry.specs.Box.{box_of}
use Rattle.geometry.specs.Plane.{dot_product_three_points}
use Rattle.lone.specs.Act.{Act, stay, discard, drop_point, move_on, to_first, double, cut, apply}

-- a spike at the present point of a circle: the way turns back there
unfoldable pub spike : List Point → Bool
spike [] = false
spike (x ∷ xs) = lt_z (dot_product_three_points (last_of x xs) x (head_or x xs)) (pos 0)

-- the point is on a side of the box
unfoldable pub on_side : Option Rect → Point → Bool
on_side none p = true
on_side (some b) p = eq_z b.left p.x || (eq_z b.top p.y || (eq_z b.right p.x || eq_z b.bottom p.y))

-- the present point is
abbrev pub present_on_side : Option Rect → List Point → Bool
present_on_side b [] = true
present_on_side b (x ∷ xs) = on_side b x

-- the present point or the next one is
abbrev pub either_on_side : Option Rect → List Point → Bool
either_on_side b [] = true
either_on_side b (x ∷ []) = true
either_on_side b (x ∷ y ∷ r) = on_side b x || on_side b y

-- the acts that can change the box b of the circle c: a discarded ring has none; a dropped spike, or a point cut away, was on a side
abbrev pub may_change : Option Rect → List Point → Act Point → Bool
may_change b c stay = false
may_change b c (discard y) = true
may_change b c drop_point = present_on_side b c && spike c
may_change b c (move_on d) = false
may_change b c (to_first d) = false
may_change b c (double v d) = false
may_change b c (cut v put off d) = either_on_side b c

-- a ring's box after an act, from its box b before: the ring is walked only there
unfoldable pub kept_box : Option Rect → Ring Point → Act Point → Option Rect
kept_box b R act = cond (may_change b R.circle act) (box_of (apply (λ (v : Point). v) act R).circle) b
