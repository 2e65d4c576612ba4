-- Points within the limit.
use Rattle.std.specs.Prelude.{List, [], ◌∷◌, ◌^◌}
use Rattle.exact.specs.Num.{Within}
use Rattle.geometry.specs.declared.Point.{Point}

-- "A coordinate is within ±1,048,576"; z is any
pub record InTable (p : Point) : Type 0 where
  pub x : Within (2 ^ 20) p.x
  pub y : Within (2 ^ 20) p.y

-- every point of a list
abbrev pub AllInTable : List Point → Type 0
AllInTable [] = Unit {0}
AllInTable (p ∷ ps) = InTable p × AllInTable ps
