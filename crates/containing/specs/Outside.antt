-- A point outside a box, a path that begins there, and paths within a box: a shortcut of ours, which is no part of the rule (proofs/Apart says why it changes no answer).
use Rattle.std.specs.Prelude.{◌≡◌, Bool, false, ◌&&◌, ◌||◌, List, [], ◌∷◌}
use Rattle.std.specs.Int.Signed.{lt_z}
use Rattle.geometry.specs.declared.Point.{Point}
use Rattle.geometry.specs.declared.Rect.{Rect}

-- the box's sides count as inside
abbrev pub outside : Rect → Point → Bool
outside b p = lt_z p.x b.left || lt_z b.right p.x || lt_z p.y b.top || lt_z b.bottom p.y

abbrev pub begins_outside : Rect → List Point → Bool
begins_outside b (p ∷ q ∷ ps) = outside b p && outside b q
begins_outside b (p ∷ []) = false
begins_outside b [] = false

pub record Encloses (b : Rect) (q : Point) : Type 0 where
  pub left : lt_z q.x b.left ≡ false
  pub top : lt_z q.y b.top ≡ false
  pub right : lt_z b.right q.x ≡ false
  pub bottom : lt_z b.bottom q.y ≡ false

abbrev pub AllEnclosed : Rect → List Point → Type 0
AllEnclosed b [] = Unit {0}
AllEnclosed b (q ∷ qs) = Encloses b q × AllEnclosed b qs
