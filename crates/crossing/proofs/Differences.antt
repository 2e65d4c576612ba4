-- The floats of an edge pair hold whole numbers: its differences, its cross products, and the tests on them.
use Rattle.std.proofs.Common.{◌≡◌, ℕ, ◌^◌, Bool, true, false, ℤ, pos, ◌-ℤ◌, sym, refl, ap, ◌∙◌, le_trans, leb→le}
use lib.Ieee.{Float, binary64, sub, eq}
use Rattle.exact.specs.Num.{Within, Num}
use Rattle.exact.specs.Equal.{eq_z}
use Rattle.exact.proofs.Words.{i32, back_32}
use Rattle.exact.proofs.Size.{within_sub}
use Rattle.exact.proofs.Floats.{sub_of, num_float, num_sub, num_mul, num_lt, num_eq, num_zero}
use Rattle.geometry.specs.declared.Point.{Point}
use Rattle.crossing.specs.declared.EdgePair.{EdgePair}
use Rattle.crossing.specs.declared.Edges.{Edges}
use Rattle.geometry.specs.Plane.{divisor, along_first, along_second, strictly_within, segments_intersect}
use Rattle.geometry.specs.Table.{InTable}
use Rattle.crossing.specs.Crossing.{float, edge_pair, zero_f}
use Rattle.crossing.specs.Within.{edges_of, Paired}
use Rattle.crossing.specs.Floats.{divisor_f, along_f, strictly_within_f}

-- a difference as the code makes it
diff_float : {a b : ℤ} → Within (2 ^ 20) a → Within (2 ^ 20) b → sub binary64 (float (i32 b)) (float (i32 a)) ≡ float (b -ℤ a)
diff_float {a} {b} h k = rw (back_32 h tt, back_32 k tt) (sub_of binary64 b a (le_trans k.size (leb→le (2 ^ 20) (2 ^ 53) tt)) (le_trans h.size (leb→le (2 ^ 20) (2 ^ 53) tt)))

module _ {a b c d : Point} (A : InTable a) (B : InTable b) (C : InTable c) (D : InTable d) where
  pub edge_pair_of :
      ◌≡◌ {A = EdgePair}
      (record {
        dx1 = sub binary64 (float (i32 b.x)) (float (i32 a.x));
        dy1 = sub binary64 (float (i32 b.y)) (float (i32 a.y));
        dx2 = sub binary64 (float (i32 d.x)) (float (i32 c.x));
        dy2 = sub binary64 (float (i32 d.y)) (float (i32 c.y));
      })
      (edge_pair a b c d)
  unfolding edge_pair
  edge_pair_of = rw (diff_float A.x B.x, diff_float A.y B.y, diff_float C.x D.x, diff_float C.y D.y)

  dx1 : Num (edge_pair a b c d).dx1 (b.x -ℤ a.x) (2 ^ 21)
  unfolding edge_pair
  dx1 = num_float refl (within_sub B.x A.x) tt

  dy1 : Num (edge_pair a b c d).dy1 (b.y -ℤ a.y) (2 ^ 21)
  unfolding edge_pair
  dy1 = num_float refl (within_sub B.y A.y) tt

  dx2 : Num (edge_pair a b c d).dx2 (d.x -ℤ c.x) (2 ^ 21)
  unfolding edge_pair
  dx2 = num_float refl (within_sub D.x C.x) tt

  dy2 : Num (edge_pair a b c d).dy2 (d.y -ℤ c.y) (2 ^ 21)
  unfolding edge_pair
  dy2 = num_float refl (within_sub D.y C.y) tt

  coordinate_float : {z : ℤ} → Within (2 ^ 20) z → Num (float z) z (2 ^ 20)
  coordinate_float h = num_float refl h tt

  fx : Num (sub binary64 (float a.x) (float c.x)) (a.x -ℤ c.x) (2 ^ 21)
  fx = num_sub (coordinate_float A.x) (coordinate_float C.x) tt

  fy : Num (sub binary64 (float a.y) (float c.y)) (a.y -ℤ c.y) (2 ^ 21)
  fy = num_sub (coordinate_float A.y) (coordinate_float C.y) tt

  pub num_divisor : Num (divisor_f (edge_pair a b c d)) (divisor a b c d) (2 ^ 43)
  num_divisor = num_sub (num_mul dy1 dx2 tt) (num_mul dy2 dx1 tt) tt

  pub num_first : Num (along_f a.x a.y c.x c.y (edge_pair a b c d).dx2 (edge_pair a b c d).dy2) (along_first a b c d) (2 ^ 43)
  num_first = num_sub (num_mul fx dy2 tt) (num_mul fy dx2 tt) tt

  pub num_second : Num (along_f a.x a.y c.x c.y (edge_pair a b c d).dx1 (edge_pair a b c d).dy1) (along_second a b c d) (2 ^ 43)
  num_second = num_sub (num_mul fx dy1 tt) (num_mul fy dx1 tt) tt

-- ---- the tests, by the whole numbers
pub within_float : {t cp : Float} {u v : ℤ} {m n : ℕ} → Num t u m → Num cp v n → strictly_within_f t cp ≡ strictly_within u v
unfolding strictly_within_f strictly_within
within_float h k = rw (num_lt num_zero h, num_lt h k, num_lt h num_zero, num_lt k h)

module _ {e : Edges} {cp : Float} (p : Paired e) (q : cp ≡ divisor_f e.pair) where
  cp_is : cp ≡ divisor_f (edge_pair e.a e.b e.c e.d)
  cp_is = q ∙ ap divisor_f p.pair_is

  parallel_is : eq cp zero_f ≡ eq_z (divisor e.a e.b e.c e.d) (pos 0)
  parallel_is = rw cp_is (num_eq (num_divisor p.a_in p.b_in p.c_in p.d_in) num_zero)

  -- `segments_intersect` of parallel edges
  pub parallel_of : eq cp zero_f ≡ true → false ≡ segments_intersect e.a e.b e.c e.d
  unfolding segments_intersect
  parallel_of t = rw (sym parallel_is ∙ t)

  -- and of others, by the first edge's fraction and, where that is within, the second's
  module _ {t : Float} {r : Bool} (f : eq cp zero_f ≡ false) (g : t ≡ along_f e.a.x e.a.y e.c.x e.c.y e.pair.dx2 e.pair.dy2) (h : r ≡ strictly_within_f t cp) where
    first_is : strictly_within (along_first e.a e.b e.c e.d) (divisor e.a e.b e.c e.d) ≡ r
    first_is = rw (h, g, p.pair_is, cp_is, within_float (num_first p.a_in p.b_in p.c_in p.d_in) (num_divisor p.a_in p.b_in p.c_in p.d_in))

    pub apart_of : r ≡ false → r ≡ segments_intersect e.a e.b e.c e.d
    unfolding segments_intersect
    apart_of n = rw (sym parallel_is ∙ f, first_is ∙ n, n)

    pub intersect_of :
        {u : Float} {s : Bool} → r ≡ true →
        u ≡ along_f e.a.x e.a.y e.c.x e.c.y e.pair.dx1 e.pair.dy1 → s ≡ strictly_within_f u cp → s ≡ segments_intersect e.a e.b e.c e.d
    unfolding segments_intersect
    intersect_of n i j = rw (sym parallel_is ∙ f, first_is ∙ n, j, i, p.pair_is, cp_is, within_float (num_second p.a_in p.b_in p.c_in p.d_in) (num_divisor p.a_in p.b_in p.c_in p.d_in))

-- ---- the answer of `edges_of`
pub paired_of : {a b c d : Point} {e : Edges} → InTable a → InTable b → InTable c → InTable d → e ≡ edges_of a b c d → Paired e
paired_of A B C D q = rw q (record { a_in = A; b_in = B; c_in = C; d_in = D; pair_is = refl })
