-- The crossing point: what `get_segment_intersect_pt` answers in each case, and that it lies in the first edge's box.
use Rattle.std.proofs.Common.{◌≡◌, ◌^◌, ℤ, ◌-ℤ◌, sym, refl, ap, ◌∙◌}
use lib.Ieee.{Float}
use Rattle.exact.specs.Num.{Within, Part}
use Rattle.exact.proofs.Words.{i32, back_32}
use Rattle.exact.proofs.Size.{within_sub}
use Rattle.exact.proofs.Floats.{num_float}
use Rattle.geometry.specs.declared.Point.{Point}
use Rattle.crossing.specs.declared.Edges.{Edges}
use Rattle.crossing.specs.declared.Crossing.{Crossing}
use Rattle.crossing.specs.declared.Crossing.TheVariants.{Parallel, Start, End, Inside}
use Rattle.geometry.specs.Plane.{divisor, along_first, along_second}
use Rattle.geometry.specs.Table.{InTable}
use Rattle.crossing.specs.Crossing.{float, edge_pair, crossing, coordinate_at, point_at, point_of, get_segment_intersect_pt, crossing_point}
use Rattle.crossing.specs.Within.{Paired, MeetAt, InBox, Crossed}
use Rattle.crossing.specs.Floats.{Reach, stepped_f}
use Rattle.crossing.proofs.Fractions.{part_of}
use Rattle.crossing.proofs.Box.{between, between_within, stepped_within, stands_at_start, at_end}

abbrev reach : {a b : ℤ} {d t : Float} → Within (2 ^ 20) a → Within (2 ^ 20) b → d ≡ float (b -ℤ a) → Part t → Reach a d t
reach {a} {b} h k e p = record { to = b; from = h; end = k; step = (num_float e (within_sub k h) tt).exact; part = p }

back : {z : ℤ} → Within (2 ^ 20) z → i32 z ≡ z
back h = back_32 h tt

part_inside : (a b c d : Point) (t s : Float) → crossing a b c d ≡ Inside t s → Part t
unfolding crossing
part_inside a b c d t s e = part_of (along_first a b c d) (along_second a b c d) (divisor a b c d) t s e

stepped_coordinate : (a b : ℤ) (t : Float) → stepped_f a (float (b -ℤ a)) t ≡ coordinate_at a b t
unfolding stepped_f coordinate_at
stepped_coordinate a b t = refl

-- ---- what `point_inside` needs, and its answer
module _ {e : Edges} {t : Float} (m : MeetAt e t) where
  A : InTable e.a
  A = m.paired.a_in

  B : InTable e.b
  B = m.paired.b_in

  part : Part t
  part = part_inside e.a e.b e.c e.d t m.second m.is

  first_x : e.pair.dx1 ≡ float (e.b.x -ℤ e.a.x)
  unfolding edge_pair
  first_x = rw m.paired.pair_is

  first_y : e.pair.dy1 ≡ float (e.b.y -ℤ e.a.y)
  unfolding edge_pair
  first_y = rw m.paired.pair_is

  pub on_x : Reach (i32 e.a.x) e.pair.dx1 t
  on_x = rw (back A.x) (reach A.x B.x first_x part)

  pub on_y : Reach (i32 e.a.y) e.pair.dy1 t
  on_y = rw (back A.y) (reach A.y B.y first_y part)

  pub inside_of : {x y : ℤ} → x ≡ stepped_f (i32 e.a.x) e.pair.dx1 t → y ≡ stepped_f (i32 e.a.y) e.pair.dy1 t → ◌≡◌ {A = Point} (record { x = i32 x; y = i32 y; z = 0 }) (point_at e.a e.b t)
  inside_of {x} {y} g k =
      let ex : i32 x ≡ coordinate_at e.a.x e.b.x t = ap i32 g ∙ back (stepped_within on_x) ∙ rw (back A.x, first_x) (stepped_coordinate e.a.x e.b.x t) in
      let ey : i32 y ≡ coordinate_at e.a.y e.b.y t = ap i32 k ∙ back (stepped_within on_y) ∙ rw (back A.y, first_y) (stepped_coordinate e.a.y e.b.y t) in
      rw (ex, ey)

-- ---- the box
box_at : (a b c d : Point) → InTable a → InTable b → (g : Crossing) → crossing a b c d ≡ g → InBox a b (point_of a b a g)
box_at a b c d A B Parallel e = record { x = stands_at_start a.x b.x; y = stands_at_start a.y b.y }
box_at a b c d A B Start e = record { x = stands_at_start a.x b.x; y = stands_at_start a.y b.y }
box_at a b c d A B End e = record { x = at_end a.x b.x; y = at_end a.y b.y }
box_at a b c d A B (Inside t s) e =
    let p = part_inside a b c d t s e in
    record {
      x = rw (stepped_coordinate a.x b.x t) at (between (reach A.x B.x refl p));
      y = rw (stepped_coordinate a.y b.y t) at (between (reach A.y B.y refl p));
    }

module _ {a b : Point} (c d : Point) (A : InTable a) (B : InTable b) where
  -- "It lies in the first edge's box"
  pub crossing_in_box : InBox a b (crossing_point a b c d)
  unfolding get_segment_intersect_pt
  crossing_in_box = box_at a b c d A B (crossing a b c d) refl

  -- so it is within the limit
  pub crossing_in_table : InTable (crossing_point a b c d)
  crossing_in_table = record { x = between_within A.x B.x crossing_in_box.x; y = between_within A.y B.y crossing_in_box.y }

  pub crossed_of : {r : Point} → r ≡ crossing_point a b c d → Crossed a b c d r
  crossed_of e = record { is = e; box = rw e crossing_in_box; table = rw e crossing_in_table }

-- ---- the crossing point, by the answer of `get_segment_intersect_pt`
pub meet_of : {e : Edges} {f : Crossing} {t s : Float} → Paired e → f ≡ crossing e.a e.b e.c e.d → f ≡ Inside t s → MeetAt e t
meet_of {s = s} p q h = record { paired = p; second = s; is = sym q ∙ h }

pub crossed_as : {e : Edges} {f g : Crossing} {r : Point} → Paired e → f ≡ crossing e.a e.b e.c e.d → f ≡ g → r ≡ point_of e.a e.b e.a g → Crossed e.a e.b e.c e.d r
unfolding get_segment_intersect_pt
crossed_as {e} p q h k = crossed_of e.c e.d p.a_in p.b_in (k ∙ ap (point_of e.a e.b e.a) (sym h ∙ q))
