-- Where the crossing test holds, the crossing is inside, and both fractions are floats strictly between 0 and 1.
use Rattle.std.proofs.Common.{◌≡◌, ℕ, suc, ◌*◌, ◌^◌, ◌<◌, ◌≤◌, Bool, true, false, cond, not, ◌&&◌, ltb, ℤ, pos, negsuc, ◌*ℤ◌, nat_abs, refl, ap, suc-le-suc, zero-le, le_trans, mul-pos, arith, leb→le, ltb-true, le-ltb}
use mathlib.Core.Bool.{false≢true}
use borrow.Author.Tests.{lt-leb}
use lib.Signed.{le_z, lt_z}
use Rattle.exact.specs.Equal.{eq_z}
use Rattle.exact.proofs.Size.{ne_eq_z}
use Rattle.exact.proofs.Quotient.{round_above, round_below}
use Rattle.geometry.specs.declared.Point.{Point}
use Rattle.crossing.specs.declared.Crossing.TheVariants.{Inside}
use Rattle.geometry.specs.Plane.{divisor, along_first, along_second, strictly_within, segments_intersect}
use Rattle.geometry.specs.Table.{InTable}
use Rattle.crossing.specs.Crossing.{quotient, fraction_of, crossing}
use Rattle.crossing.specs.Within.{Inner, BothInner}
use Rattle.crossing.proofs.Differences.{num_divisor}
use Rattle.crossing.proofs.Fractions.{not_below}

-- u is a proper fraction of v
record Proper (u v : ℤ) : Type 0 where
  some : 0 < nat_abs u
  less : nat_abs u < nat_abs v
  side : le_z (u *ℤ v) (pos 0) ≡ false

below_none : (n : ℕ) → ltb n 0 ≡ false
below_none n = le-ltb n 0 zero-le

proper : (u v : ℤ) → strictly_within u v ≡ true → Proper u v
unfolding strictly_within
proper (pos n) (pos m) e = go (ltb 0 n) (ltb n m) (ltb-true 0 n) (ltb-true n m) (rw (below_none n) at e)
  where
    go : (a c : Bool) → (a ≡ true → 0 < n) → (c ≡ true → n < m) → cond a c false ≡ true → Proper (pos n) (pos m)
    go true true f g e =
        let h : 0 < n = f refl in
        let k : n < m = g refl in
        record { some = h; less = k; side = lt-leb (n * m) 0 (mul-pos h (omega arith)) }
    go true false f g e = absurd (false≢true e)
    go false c f g e = absurd (false≢true e)
proper (pos n) (negsuc m) e = go (ltb 0 n) (rw (below_none n) at e)
  where
    go : (a : Bool) → cond a false false ≡ true → Proper (pos n) (negsuc m)
    go true e = absurd (false≢true e)
    go false e = absurd (false≢true e)
proper (negsuc n) (pos m) e = absurd (false≢true e)
proper (negsuc n) (negsuc m) e =
    let k : n < m = ltb-true n m e in
    record { some = suc-le-suc zero-le; less = suc-le-suc k; side = lt-leb (suc n * suc m) 0 (mul-pos (suc-le-suc zero-le) (suc-le-suc zero-le)) }

proper_sign : {u v : ℤ} → Proper u v → lt_z (u *ℤ v) (pos 0) ≡ false
proper_sign {u} {v} p = not_below (u *ℤ v) p.side

inside_is : (u w v : ℤ) → Proper u v → fraction_of u w v ≡ Inside (quotient u v) (quotient w v)
unfolding fraction_of
inside_is u w v p = rw (ne_eq_z v (pos 0) (λ e. no (nat_abs u) (nat_abs v) p.less (ap nat_abs e)), p.side, lt-leb (nat_abs v) (nat_abs u) p.less)
  where
    no : (a b : ℕ) → a < b → b ≡ 0 → ⊥
    no a b h e = omega arith

-- a proper fraction, rounded once
inner : (u v : ℤ) → Proper u v → nat_abs v ≤ 2 ^ 53 → Inner (quotient u v)
inner u v p m =
    rw (proper_sign p)
    (record { above = round_above (nat_abs u) (nat_abs v) p.some p.less m; below = round_below (nat_abs u) (nat_abs v) p.some p.less m })

both_hold : (a b c d : Point) → segments_intersect a b c d ≡ true
    → (strictly_within (along_first a b c d) (divisor a b c d) ≡ true) × (strictly_within (along_second a b c d) (divisor a b c d) ≡ true)
unfolding segments_intersect
both_hold a b c d e =
    go (not (eq_z (divisor a b c d) (pos 0))) (strictly_within (along_first a b c d) (divisor a b c d)) (strictly_within (along_second a b c d) (divisor a b c d)) e
  where
    go : (x y z : Bool) → (x && (y && z)) ≡ true → (y ≡ true) × (z ≡ true)
    go true true true e = (refl, refl)
    go true true false e = absurd (false≢true e)
    go true false z e = absurd (false≢true e)
    go false y z e = absurd (false≢true e)

pub crossing_inside : {a b c d : Point} → InTable a → InTable b → InTable c → InTable d → segments_intersect a b c d ≡ true → BothInner a b c d
unfolding crossing
crossing_inside {a} {b} {c} {d} A B C D e =
    let u = along_first a b c d in
    let w = along_second a b c d in
    let v = divisor a b c d in
    let p = proper u v (both_hold a b c d e).0 in
    let q = proper w v (both_hold a b c d e).1 in
    let m = le_trans (num_divisor A B C D).within.size (leb→le (2 ^ 43) (2 ^ 53) tt) in
    record { first = quotient u v; second = quotient w v; is = inside_is u w v p; first_inner = inner u v p m; second_inner = inner w v q m }
