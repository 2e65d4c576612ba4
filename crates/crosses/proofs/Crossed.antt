-- The cross products of two edges and the tests on them, as the code's words hold them.
use mathlib.Core.Path.{◌≡◌, sym, ◌∙◌}
use mathlib.Core.Logic.{◌≢◌}
use mathlib.Core.Bool.{Bool, true, false}
use Prim.Native.Nat.{◌^◌}
use native.Mathlib.Omega.{arith}
use borrow.Author.Tests.{eq-eqb, ne_eqb}
use lib.Dec.{eqb}
use lib.IntN.{ℤ, pos, ◌-ℤ◌, ◌*ℤ◌}
use lib.Signed.{lt_z}
use mir.Syntax.{w64}
use mir.Val.{SFits, of_z}
use mir.Facts.{to_z-of_z}
use Rattle.exact.specs.Num.{Within}
use Rattle.exact.specs.Equal.{eq_z}
use Rattle.exact.proofs.Words.{i32, i64, Held, held_here, held_is, held_64, held_sub, held_eq, asked}
use Rattle.geometry.specs.declared.Point.{Point}
use Rattle.geometry.specs.Plane.{divisor, along_first, along_second, strictly_within, segments_intersect}
use Rattle.geometry.specs.Table.{InTable}
use Rattle.geometry.proofs.Coordinates.{coordinate, product_of}
use Rattle.crossing.proofs.Differences.{num_divisor, num_first, num_second}

-- a coordinate, as `product` asks it
pub handed : {z : ℤ} → Within (2 ^ 20) z → Within (2 ^ 20) (i32 z)
handed h = asked (coordinate h)

-- ---- the answers of `divisor` and `along`, of what `product` answers
module _ {a b c d : Point} (A : InTable a) (B : InTable b) (C : InTable c) (D : InTable d) where
  pub divisor_of :
      {r s : ℤ} →
      r ≡ (i32 b.y -ℤ i32 a.y) *ℤ (i32 d.x -ℤ i32 c.x) → s ≡ (i32 d.y -ℤ i32 c.y) *ℤ (i32 b.x -ℤ i32 a.x) →
      Held (i64 r -ℤ i64 s) (divisor a b c d) (2 ^ 43)
  divisor_of e f = held_sub (held_64 (product_of B.y A.y D.x C.x e) tt) (held_64 (product_of D.y C.y B.x A.x f) tt)

module _ {a c p q : Point} (A : InTable a) (C : InTable c) (P : InTable p) (Q : InTable q) where
  pub along_of :
      {r s : ℤ} →
      r ≡ (i32 a.x -ℤ i32 c.x) *ℤ (i32 q.y -ℤ i32 p.y) → s ≡ (i32 a.y -ℤ i32 c.y) *ℤ (i32 q.x -ℤ i32 p.x) →
      Held (i64 r -ℤ i64 s) ((a.x -ℤ c.x) *ℤ (q.y -ℤ p.y) -ℤ (a.y -ℤ c.y) *ℤ (q.x -ℤ p.x)) (2 ^ 43)
  along_of e f = held_sub (held_64 (product_of A.x C.x Q.y P.y e) tt) (held_64 (product_of A.y C.y Q.x P.x f) tt)

-- ---- the answer of `is_between`
module _ {t cp : ℤ} (h : SFits w64 t) (k : SFits w64 cp) where
  pub between_above : lt_z (pos 0) (i64 t) ≡ true → lt_z (i64 t) (i64 cp) ≡ strictly_within t cp
  unfolding strictly_within
  between_above e = rw (to_z-of_z h, to_z-of_z k) (rw (rw (to_z-of_z h) at e))

  pub between_below : lt_z (pos 0) (i64 t) ≡ false → lt_z (i64 t) (pos 0) ≡ true → lt_z (i64 cp) (i64 t) ≡ strictly_within t cp
  unfolding strictly_within
  between_below e f = rw (to_z-of_z h, to_z-of_z k) (rw (rw (to_z-of_z h) at e, rw (to_z-of_z h) at f))

  pub between_none : lt_z (pos 0) (i64 t) ≡ false → lt_z (i64 t) (pos 0) ≡ false → false ≡ strictly_within t cp
  unfolding strictly_within
  between_none e f = rw (rw (to_z-of_z h) at e, rw (to_z-of_z h) at f)

-- ---- the answer of `edges_cross`, by the divisor, and where that is not 0 by both numerators
module _ {a b c d : Point} {v : ℤ} (A : InTable a) (B : InTable b) (C : InTable c) (D : InTable d) (e : v ≡ divisor a b c d) where
  divisor_held : Held v (divisor a b c d) (2 ^ 43)
  divisor_held = held_is e (held_here (num_divisor A B C D).within)

  parallel_is : eqb (of_z w64 v) 0 ≡ eq_z (divisor a b c d) (pos 0)
  parallel_is = held_eq divisor_held (held_here zero) tt tt
    where
      zero : Within 0 (pos 0)
      zero = record { size = omega arith }

  pub parallel_of : of_z w64 v ≡ 0 → false ≡ segments_intersect a b c d
  unfolding segments_intersect
  parallel_of t = rw (sym parallel_is ∙ eq-eqb (of_z w64 v) 0 t)

  module _ {t : ℤ} {r : Bool} (f : of_z w64 v ≢ 0) (g : t ≡ along_first a b c d) (h : r ≡ strictly_within (i64 t) (i64 v)) where
    first_held : Held t (along_first a b c d) (2 ^ 43)
    first_held = held_is g (held_here (num_first A B C D).within)

    first_is : strictly_within (along_first a b c d) (divisor a b c d) ≡ r
    first_is = rw (h, (held_64 first_held tt).is, (held_64 divisor_held tt).is)

    pub apart_of : r ≡ false → r ≡ segments_intersect a b c d
    unfolding segments_intersect
    apart_of n = n ∙ rw (sym parallel_is ∙ ne_eqb (of_z w64 v) 0 f, first_is ∙ n)

    module _ {u : ℤ} {s : Bool} (n : r ≡ true) (i : u ≡ along_second a b c d) (j : s ≡ strictly_within (i64 u) (i64 v)) where
      second_held : Held u (along_second a b c d) (2 ^ 43)
      second_held = held_is i (held_here (num_second A B C D).within)

      pub crossed_of : s ≡ segments_intersect a b c d
      unfolding segments_intersect
      crossed_of = rw (sym parallel_is ∙ ne_eqb (of_z w64 v) 0 f, first_is ∙ n, j, (held_64 second_held tt).is, (held_64 divisor_held tt).is)
