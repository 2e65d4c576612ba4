-- Where two edges cross: document 01, "Edge crossing", and document 02, Ask 7; `get_segment_intersect_pt` of core.rs. Whole numbers, but for one division for each fraction, one product and one sum.
use Rattle.std.specs.Prelude.{Bool, true, false, ℤ, pos, ◌-ℤ◌, ◌*ℤ◌, from_bits, int_le, int_lt, nat_le, unsigned_abs, Float}
use Rattle.std.specs.Float.{binary64}
use Rattle.std.specs.Float.Ieee.{of_int, add, mul, round, to_signed}
use Rattle.exact.specs.Equal.{eq_z}
use Rattle.geometry.specs.declared.Point.{Point}
use Rattle.crossing.specs.declared.EdgePair.{EdgePair}
use Rattle.crossing.specs.declared.Crossing.{Crossing}
use Rattle.crossing.specs.declared.Crossing.TheVariants.{Parallel, Start, End, Inside}
use Rattle.geometry.specs.Plane.{divisor, along_first, along_second}

-- the float of a whole number
abbrev pub float : ℤ → Float
float z = of_int binary64 z

-- "The four differences of an edge pair are kept together as floats"
unfoldable pub edge_pair : Point → Point → Point → Point → EdgePair
edge_pair a b c d = record { dx1 = float (b.x -ℤ a.x); dy1 = float (b.y -ℤ a.y); dx2 = float (d.x -ℤ c.x); dy2 = float (d.y -ℤ c.y) }

-- the first where the test holds, else the second
abbrev pub pick : Bool → Crossing → Crossing → Crossing
pick true x y = x
pick false x y = y

-- num / det, rounded once, with the sign of their product; 0 is plus
abbrev pub quotient : ℤ → ℤ → Float
quotient num det = round binary64 (int_lt (num *ℤ det) (pos 0)) (unsigned_abs num) (unsigned_abs det)

-- by the numerators of both fractions and their divisor: at or before the first edge's start, at or after its end, or inside with both fractions
unfoldable pub fraction_of : ℤ → ℤ → ℤ → Crossing
fraction_of num1 num2 det =
    pick (eq_z det (pos 0)) Parallel
    (pick (int_le (num1 *ℤ det) (pos 0)) Start
    (pick (nat_le (unsigned_abs det) (unsigned_abs num1)) End
    (Inside (quotient num1 det) (quotient num2 det))))

-- the answer of `get_segment_intersect_pt`: where the line of the edge from c to d meets the edge from a to b
unfoldable pub crossing : Point → Point → Point → Point → Crossing
crossing a b c d = fraction_of (along_first a b c d) (along_second a b c d) (divisor a b c d)

-- from a toward b by the fraction t, "then drops toward zero"
unfoldable pub coordinate_at : ℤ → ℤ → Float → ℤ
coordinate_at a b t = to_signed 63 (add binary64 (float a) (mul binary64 t (float (b -ℤ a))))

-- the point of the edge from a to b at its fraction t: "a crossing inside an edge gets 0"
abbrev pub point_at : Point → Point → Float → Point
point_at a b t = record { x = coordinate_at a.x b.x t; y = coordinate_at a.y b.y t; z = 0 }

-- the point of the edge from a to b, and ip where there is none
abbrev pub point_of : Point → Point → Point → Crossing → Point
point_of a b ip Parallel = ip
point_of a b ip Start = a
point_of a b ip End = b
point_of a b ip (Inside first second) = point_at a b first

-- what the Rust's `get_segment_intersect_pt` leaves in its `ip`. It answers false for parallel edges, where `ip` stays
unfoldable pub get_segment_intersect_pt : Point → Point → Point → Point → Point → Point
get_segment_intersect_pt a b c d ip = point_of a b ip (crossing a b c d)

-- the crossing point of `do_split_op`, whose `ip` begins as the first edge's start
abbrev pub crossing_point : Point → Point → Point → Point → Point
crossing_point a b c d = get_segment_intersect_pt a b c d a

-- 0.0 and 1.0
abbrev pub zero_f : Float
zero_f = from_bits binary64 0

abbrev pub one_f : Float
one_f = from_bits binary64 0x3ff0_0000_0000_0000
