-- The fraction of a crossing: the float's tests are the whole numbers'.
use Rattle.std.proofs.Common.{◌≡◌, ℕ, suc, ◌^◌, ◌<◌, ◌≤◌, Bool, true, false, cond, leb, ℤ, pos, negsuc, ◌*ℤ◌, nat_abs, sym, refl, ap, ◌∙◌, subst, true≢false, zero-le, le_trans, le_of_lt, zero-mul, arith, leb→le, le-ltb, leb-false}
use lib.Signed.{le_z, lt_z}
use lib.Ieee.{Float, binary64, round, div, le}
use Rattle.exact.specs.Num.{Num, Part}
use Rattle.exact.specs.Equal.{eq_z}
use Rattle.exact.proofs.Floats.{num_zero, num_eq}
use Rattle.exact.proofs.Size.{eq_z_true}
use Rattle.exact.proofs.Quotient.{size_pos, start_is, inside_is, quotient_is, round_zero, end_is, part_round}
use Rattle.crossing.specs.declared.Edges.{Edges}
use Rattle.crossing.specs.declared.Crossing.{Crossing}
use Rattle.crossing.specs.declared.Crossing.TheVariants.{Parallel, Start, End, Inside}
use Rattle.crossing.specs.Crossing.{pick, quotient, fraction_of, crossing, zero_f, one_f}
use Rattle.crossing.specs.Within.{Paired}
use Rattle.crossing.specs.Floats.{divisor_f, along_f, quotient_f, fraction_f}
use Rattle.crossing.proofs.Differences.{num_divisor, num_first, num_second}

-- a number above 0 is not below it
pub not_below : (z : ℤ) → le_z z (pos 0) ≡ false → lt_z z (pos 0) ≡ false
not_below (pos n) e = le-ltb n 0 zero-le
not_below (negsuc n) e = absurd (true≢false e)

none_over : (v : ℤ) → lt_z (pos 0 *ℤ v) (pos 0) ≡ false
none_over (pos n) = rw (zero-mul n)
none_over (negsuc n) = rw (zero-mul (suc n))

-- `quotient` on floats that hold whole numbers
pub quotient_float : {x y : Float} {u v : ℤ} {m n : ℕ} → Num x u m → Num y v n → 0 < nat_abs v → nat_abs v ≤ 2 ^ 53 → quotient_f x y ≡ quotient u v
unfolding quotient_f
quotient_float {x} {y} {u} {v} p q k l = rw (num_eq p num_zero) (go (eq_z u (pos 0)) (eq_z_true u (pos 0)) (size_pos u))
  where
    go : (b : Bool) → (b ≡ true → u ≡ pos 0) → (b ≡ false → 0 < nat_abs u) → cond b zero_f (div binary64 x y) ≡ quotient u v
    go true f g = rw (f refl, none_over v) (sym (round_zero (nat_abs v) k))
    go false f g = quotient_is p.exact q.exact k l (g refl)

-- `fraction` on floats that hold whole numbers
pub fraction_float : {x s y : Float} {u w v : ℤ} {m k n : ℕ} → Num x u m → Num s w k → Num y v n → n ≤ 2 ^ 53 → fraction_f x s y ≡ fraction_of u w v
unfolding fraction_f fraction_of
fraction_float {x} {s} {y} {u} {w} {v} p o q h = rw (num_eq q num_zero) (go (eq_z v (pos 0)) (size_pos v))
  where
    rest : (b : Bool) → (b ≡ false → (le one_f (div binary64 x y) ≡ leb (nat_abs v) (nat_abs u)) × (div binary64 x y ≡ quotient u v)) → quotient_f s y ≡ quotient w v →
        pick b Start (pick (le one_f (div binary64 x y)) End (Inside (div binary64 x y) (quotient_f s y))) ≡ pick b Start (pick (leb (nat_abs v) (nat_abs u)) End (Inside (quotient u v) (quotient w v)))
    rest true f e = refl
    rest false f e = let g = f refl in rw (g.0, g.1, e)

    go : (b : Bool) → (b ≡ false → 0 < nat_abs v) →
        pick b Parallel (pick (le (div binary64 x y) zero_f) Start (pick (le one_f (div binary64 x y)) End (Inside (div binary64 x y) (quotient_f s y))))
        ≡ pick b Parallel (pick (le_z (u *ℤ v) (pos 0)) Start (pick (leb (nat_abs v) (nat_abs u)) End (Inside (quotient u v) (quotient w v))))
    go true f = refl
    go false f =
        let k = f refl in
        let l = le_trans q.within.size h in
        rw (start_is p.exact q.exact k l)
        (rest (le_z (u *ℤ v) (pos 0)) (λ z. (end_is p.exact q.exact k l z, inside_is p.exact q.exact k l z ∙ ap (λ (b : Bool). round binary64 b (nat_abs u) (nat_abs v)) (sym (not_below (u *ℤ v) z)))) (quotient_float o q k l))

-- the answer of `get_segment_intersect_pt`
pub crossing_of :
    {e : Edges} {r : Crossing} {t s cp : Float} → Paired e →
    t ≡ along_f e.a.x e.a.y e.c.x e.c.y e.pair.dx2 e.pair.dy2 → s ≡ along_f e.a.x e.a.y e.c.x e.c.y e.pair.dx1 e.pair.dy1 →
    cp ≡ divisor_f e.pair → r ≡ fraction_f t s cp → r ≡ crossing e.a e.b e.c e.d
unfolding crossing
crossing_of p f g q r =
    let A = p.a_in in
    let B = p.b_in in
    let C = p.c_in in
    let D = p.d_in in
    r ∙ rw (f, g, q, p.pair_is) (fraction_float (num_first A B C D) (num_second A B C D) (num_divisor A B C D) (leb→le (2 ^ 43) (2 ^ 53) tt))

-- ---- the first fraction lies between 0 and 1
pub part_of : (u w v : ℤ) (t s : Float) → fraction_of u w v ≡ Inside t s → Part t
unfolding fraction_of
part_of u w v t s e = go (eq_z v (pos 0)) (le_z (u *ℤ v) (pos 0)) (leb (nat_abs v) (nat_abs u)) (size_pos v) (not_below (u *ℤ v)) (leb-false (nat_abs v) (nat_abs u)) e
  where
    no : {A : Type 0} → ◌≡◌ {A = ℕ} 0 1 → A
    no z = absurd (apart z)
      where
        apart : ◌≡◌ {A = ℕ} 0 1 → ⊥
        apart z = omega arith

    go : (a b c : Bool) → (a ≡ false → 0 < nat_abs v) → (b ≡ false → lt_z (u *ℤ v) (pos 0) ≡ false) → (c ≡ false → nat_abs u < nat_abs v) → pick a Parallel (pick b Start (pick c End (Inside (quotient u v) (quotient w v)))) ≡ Inside t s → Part t
    go true b c p o q e = no (cc)
    go false true c p o q e = no (cc)
    go false false true p o q e = no (cc)
    go false false false p o q e =
        let g : quotient u v ≡ t = cc in
        let f : round binary64 false (nat_abs u) (nat_abs v) ≡ t = ap (λ (b : Bool). round binary64 b (nat_abs u) (nat_abs v)) (sym (o refl)) ∙ g in
        subst Part f (part_round (nat_abs u) (nat_abs v) (p refl) (le_of_lt (q refl)))
