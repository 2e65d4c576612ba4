-- The inner steps of the crossing test and of the crossing, for every float: what the code computes. On points within the limit they are Plane's and Crossing's whole numbers, which proofs/Differences and proofs/Fractions show.
use Rattle.std.specs.Prelude.{◌^◌, Bool, false, cond, ℤ, ◌-ℤ◌, Float}
use Rattle.std.specs.Float.{binary64}
use Rattle.std.specs.Float.Ieee.{add, sub, mul, div, lt, le, eq, to_signed}
use Rattle.exact.specs.Num.{Within, Whole, Part}
use Rattle.crossing.specs.declared.EdgePair.{EdgePair}
use Rattle.crossing.specs.declared.Crossing.{Crossing}
use Rattle.crossing.specs.declared.Crossing.TheVariants.{Parallel, Start, End, Inside}
use Rattle.crossing.specs.Crossing.{float, pick, zero_f, one_f}

-- the cross product of the two edges
abbrev pub divisor_f : EdgePair → Float
divisor_f e = sub binary64 (mul binary64 e.dy1 e.dx2) (mul binary64 e.dy2 e.dx1)

-- the cross product of the edge (dx, dy) and the way from (cx, cy) to (ax, ay)
abbrev pub along_f : ℤ → ℤ → ℤ → ℤ → Float → Float → Float
along_f ax ay cx cy dx dy =
    sub binary64 (mul binary64 (sub binary64 (float ax) (float cx)) dy) (mul binary64 (sub binary64 (float ay) (float cy)) dx)

-- t lies strictly between 0 and cp
unfoldable pub strictly_within_f : Float → Float → Bool
strictly_within_f t cp = cond (lt zero_f t) (lt t cp) (cond (lt t zero_f) (lt cp t) false)

-- num / det; 0 is plus
unfoldable pub quotient_f : Float → Float → Float
quotient_f num det = cond (eq num zero_f) zero_f (div binary64 num det)

-- the crossing, by the numerators of both fractions and their divisor
unfoldable pub fraction_f : Float → Float → Float → Crossing
fraction_f num1 num2 det =
    pick (eq det zero_f) Parallel
    (pick (le (div binary64 num1 det) zero_f) Start
    (pick (le one_f (div binary64 num1 det)) End
    (Inside (div binary64 num1 det) (quotient_f num2 det))))

-- from a by the fraction t of d: the product rounded, the sum rounded, then toward zero
unfoldable pub stepped_f : ℤ → Float → Float → ℤ
stepped_f a d t = to_signed 63 (add binary64 (float a) (mul binary64 t d))

-- d leads from the coordinate a to another, and t is a fraction from 0 to 1
pub record Reach (a : ℤ) (d t : Float) : Type 0 where
  pub to : ℤ
  pub from : Within (2 ^ 20) a
  pub end : Within (2 ^ 20) to
  pub step : Whole d (to -ℤ a)
  pub part : Part t
