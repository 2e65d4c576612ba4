-- What the code asks of two edges, and what holds of a crossing that the test finds.
use Rattle.std.specs.Prelude.{◌≡◌, true, cond, T, ℤ, int_le, Float}
use Rattle.std.specs.Float.Ieee.{lt}
use Rattle.geometry.specs.declared.Point.{Point}
use Rattle.crossing.specs.declared.Edges.{Edges}
use Rattle.crossing.specs.declared.Crossing.TheVariants.{Inside}
use Rattle.geometry.specs.Table.{InTable}
use Rattle.crossing.specs.Crossing.{crossing, crossing_point, edge_pair, one_f, zero_f}

-- two edges with their differences
abbrev pub edges_of : Point → Point → Point → Point → Edges
edges_of a b c d = record { a = a; b = b; c = c; d = d; pair = edge_pair a b c d }

-- the points of two edges are on the table, and their pair is the pair of these points
pub record Paired (e : Edges) : Type 0 where
  pub a_in : InTable e.a
  pub b_in : InTable e.b
  pub c_in : InTable e.c
  pub d_in : InTable e.d
  pub pair_is : e.pair ≡ edge_pair e.a e.b e.c e.d

-- the edges meet inside the first, at its fraction t
pub record MeetAt (e : Edges) (t : Float) : Type 0 where
  pub paired : Paired e
  pub second : Float
  pub is : crossing e.a e.b e.c e.d ≡ Inside t second

-- r lies between a and b, ends counted
pub record Between (a b r : ℤ) : Type 0 where
  pub low : T (int_le (cond (int_le a b) a b) r)
  pub high : T (int_le r (cond (int_le a b) b a))

-- "It lies in the first edge's box"
pub record InBox (a b p : Point) : Type 0 where
  pub x : Between a.x b.x p.x
  pub y : Between a.y b.y p.y

-- the crossing point of the edges, and where it lies
pub record Crossed (a b c d p : Point) : Type 0 where
  pub is : p ≡ crossing_point a b c d
  pub box : InBox a b p
  pub table : InTable p

-- t lies strictly between 0 and 1
pub record Inner (t : Float) : Type 0 where
  pub above : lt zero_f t ≡ true
  pub below : lt t one_f ≡ true

-- the answer is inside, and "both fractions lie strictly between 0 and 1"
pub record BothInner (a b c d : Point) : Type 0 where
  pub first : Float
  pub second : Float
  pub is : crossing a b c d ≡ Inside first second
  pub first_inner : Inner first
  pub second_inner : Inner second
