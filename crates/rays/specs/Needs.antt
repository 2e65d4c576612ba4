-- What the functions of this crate ask; no statement needs it.
use Rattle.std.specs.Prelude.{◌≡◌, Bool, true, false, ◌||◌}
use Rattle.std.specs.Bool.{beq}
use Rattle.geometry.specs.declared.Point.{Point}
use Rattle.rays.specs.Edge.{is_level, is_above}

-- an edge that begins at p, on the side `above` or on the level; and one from there that ends at q on the other side
pub record BeginsOn (pt : Point) (above : Bool) (p : Point) : Type 0 where
  pub side : (is_level pt p || beq (is_above pt p) above) ≡ true

pub record GoesOver (pt : Point) (above : Bool) (p q : Point) : Type 0 where
  pub from : BeginsOn pt above p
  pub off : is_level pt q ≡ false
  pub other : beq (is_above pt q) above ≡ false
