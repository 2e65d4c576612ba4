-- Why the two shortcuts of an edge that goes over the level agree with the sign of the cross product: right of the point at both ends it passes, left of it at both ends it crosses.
use Prim.Native.Nat.{ℕ, zero, suc, ◌+◌, ◌-◌, ◌*◌, ◌≤◌, ◌<◌}
use mathlib.Core.Path.{◌≡◌, refl, sym, ap, ◌∙◌}
use mathlib.Core.Bool.{Bool, true, false, cond, not, ◌||◌, ◌&&◌, beq, true≢false, false≢true}
use mathlib.Core.List.{List, [], ◌∷◌}
use native.Mathlib.Omega.{arith}
use borrow.Author.Tests.{ltb-true, ltb-false, lt-ltb, le-ltb}
use lib.Dec.{ltb}
use lib.IntN.{ℤ, pos, negsuc, ◌+ℤ◌, ◌-ℤ◌, ◌*ℤ◌}
use lib.Signed.{lt_z}
use Rattle.exact.specs.Equal.{eq_z}
use Rattle.exact.proofs.Size.{eq_z_true, eq_z_false}
use Rattle.exact.proofs.Parts.{pp, np, parts_add, parts_sub, parts_inj}
use Rattle.exact.proofs.Poly.{Term, var, ◌:+◌, ◌:-◌, ◌:*◌, solve}
use Rattle.geometry.specs.declared.Point.{Point}
use Rattle.rays.specs.declared.Way.{Way}
use Rattle.rays.specs.declared.Way.TheVariants.{Passes, Crosses}
use Rattle.geometry.specs.Plane.{sign_of, cross_product_sign}
use Rattle.rays.specs.Edge.{is_level, is_above, over_way}
use Rattle.rays.specs.Needs.{BeginsOn, GoesOver}

-- ---- the test of order, by parts
pub lt_parts : (a b : ℤ) → lt_z a b ≡ true → pp a + np b < pp b + np a
lt_parts (pos a) (pos b) e = let h = ltb-true a b e in omega arith
lt_parts (pos a) (negsuc b) e = absurd (false≢true e)
lt_parts (negsuc a) (pos b) e = omega arith
lt_parts (negsuc a) (negsuc b) e = let h = ltb-true b a e in omega arith

pub ge_parts : (a b : ℤ) → lt_z a b ≡ false → pp b + np a ≤ pp a + np b
ge_parts (pos a) (pos b) e = let h = ltb-false a b e in omega arith
ge_parts (pos a) (negsuc b) e = omega arith
ge_parts (negsuc a) (pos b) e = absurd (true≢false e)
ge_parts (negsuc a) (negsuc b) e = let h = ltb-false b a e in omega arith

parts_lt : (a b : ℤ) → pp a + np b < pp b + np a → lt_z a b ≡ true
parts_lt (pos a) (pos b) h = lt-ltb a b (omega arith)
parts_lt (pos a) (negsuc b) h = absurd (omega arith)
parts_lt (negsuc a) (pos b) h = refl
parts_lt (negsuc a) (negsuc b) h = lt-ltb b a (omega arith)

pub parts_ge : (a b : ℤ) → pp b + np a ≤ pp a + np b → lt_z a b ≡ false
parts_ge (pos a) (pos b) h = le-ltb a b (omega arith)
parts_ge (pos a) (negsuc b) h = refl
parts_ge (negsuc a) (pos b) h = absurd (omega arith)
parts_ge (negsuc a) (negsuc b) h = le-ltb b a (omega arith)

-- ---- how far b is past a
record Gap (a b : ℤ) : Type 0 where
  size : ℕ
  is : b -ℤ a ≡ pos size

gap : (a b : ℤ) → pp a + np b ≤ pp b + np a → Gap a b
gap a b h = record { size = pp b + np a - (pp a + np b); is = parts_inj (b -ℤ a) (pos (pp b + np a - (pp a + np b))) (omega (arith, parts_sub b a)) }

-- and it is past it
record Past (a b : ℤ) : Type 0 where
  size : ℕ
  is : b -ℤ a ≡ pos (suc size)

past : (a b : ℤ) → pp a + np b < pp b + np a → Past a b
past a b h =
    let n = pp b + np a - (pp a + np b) - 1 in
    record { size = n; is = parts_inj (b -ℤ a) (pos (suc n)) (omega (arith, parts_sub b a)) }

-- ---- signs
sign_up : (ab cd : ℤ) (m : ℕ) → 0 < m → ab ≡ cd +ℤ pos m → sign_of ab cd ≡ pos 1
sign_up ab cd m h e = rw (e, parts_lt cd (cd +ℤ pos m) (omega (arith, parts_add cd (pos m))))

sign_down : (ab cd : ℤ) (m : ℕ) → 0 < m → cd ≡ ab +ℤ pos m → sign_of ab cd ≡ negsuc 0
sign_down ab cd m h e = rw (e, parts_ge (ab +ℤ pos m) ab (omega (arith, parts_add ab (pos m))), parts_lt ab (ab +ℤ pos m) (omega (arith, parts_add ab (pos m))))

positive : (d b a c : ℕ) → 0 < suc d * suc b + a * suc c
positive d b a c = omega arith

-- the two products of the cross product
ab : ℤ → ℤ → ℤ → ℤ → ℤ → ℤ → ℤ
ab x y px py qx qy = (qx -ℤ px) *ℤ (y -ℤ qy)

cd : ℤ → ℤ → ℤ → ℤ → ℤ → ℤ → ℤ
cd x y px py qx qy = (qy -ℤ py) *ℤ (x -ℤ qx)

module _ (x y px py qx qy : ℤ) where
  vals : List ℤ
  vals = x ∷ y ∷ px ∷ py ∷ qx ∷ qy ∷ []

  ab_t : Term
  ab_t = (var 4 :- var 2) :* (var 1 :- var 5)

  cd_t : Term
  cd_t = (var 5 :- var 3) :* (var 0 :- var 4)

  right_above : Past x px → Past y qy → Gap py y → Past x qx → sign_of (ab x y px py qx qy) (cd x y px py qx qy) ≡ pos 1
  unfolding ab cd vals ab_t cd_t
  right_above d b a c =
      sign_up (ab x y px py qx qy) (cd x y px py qx qy) (suc d.size * suc b.size + a.size * suc c.size) (positive d.size b.size a.size c.size)
      (solve vals ab_t (cd_t :+ ((var 2 :- var 0) :* (var 5 :- var 1) :+ (var 1 :- var 3) :* (var 4 :- var 0))) refl ∙ rw (d.is, b.is, a.is, c.is))

  right_below : Past x px → Past qy y → Gap y py → Past x qx → sign_of (ab x y px py qx qy) (cd x y px py qx qy) ≡ negsuc 0
  unfolding ab cd vals ab_t cd_t
  right_below d b a c =
      sign_down (ab x y px py qx qy) (cd x y px py qx qy) (suc d.size * suc b.size + a.size * suc c.size) (positive d.size b.size a.size c.size)
      (solve vals cd_t (ab_t :+ ((var 2 :- var 0) :* (var 1 :- var 5) :+ (var 3 :- var 1) :* (var 4 :- var 0))) refl ∙ rw (d.is, b.is, a.is, c.is))

  left_above : Past px x → Past y qy → Gap py y → Past qx x → sign_of (ab x y px py qx qy) (cd x y px py qx qy) ≡ negsuc 0
  unfolding ab cd vals ab_t cd_t
  left_above d b a c =
      sign_down (ab x y px py qx qy) (cd x y px py qx qy) (suc d.size * suc b.size + a.size * suc c.size) (positive d.size b.size a.size c.size)
      (solve vals cd_t (ab_t :+ ((var 0 :- var 2) :* (var 5 :- var 1) :+ (var 1 :- var 3) :* (var 0 :- var 4))) refl ∙ rw (d.is, b.is, a.is, c.is))

  left_below : Past px x → Past qy y → Gap y py → Past qx x → sign_of (ab x y px py qx qy) (cd x y px py qx qy) ≡ pos 1
  unfolding ab cd vals ab_t cd_t
  left_below d b a c =
      sign_up (ab x y px py qx qy) (cd x y px py qx qy) (suc d.size * suc b.size + a.size * suc c.size) (positive d.size b.size a.size c.size)
      (solve vals ab_t (cd_t :+ ((var 0 :- var 2) :* (var 1 :- var 5) :+ (var 3 :- var 1) :* (var 0 :- var 4))) refl ∙ rw (d.is, b.is, a.is, c.is))

-- ---- the sides of the two ends
module _ (pt p : Point) where
  below_or_level : (above : Bool) → above ≡ true → BeginsOn pt above p → Gap p.y pt.y
  below_or_level above e f = go (is_level pt p) (is_above pt p) refl refl (rw e at f.side)
    where
      go : (l a : Bool) → is_level pt p ≡ l → is_above pt p ≡ a → (is_level pt p || beq (is_above pt p) true) ≡ true → Gap p.y pt.y
      go true a i j h = let z = eq_z_true p.y pt.y i in gap p.y pt.y (omega (arith, ap pp z, ap np z))
      go false true i j h = gap p.y pt.y (let k = lt_parts p.y pt.y j in omega arith)
      go false false i j h = absurd (false≢true (rw (i, j) at h))

  above_or_level : (above : Bool) → above ≡ false → BeginsOn pt above p → Gap pt.y p.y
  above_or_level above e f = go (is_level pt p) (is_above pt p) refl refl (rw e at f.side)
    where
      go : (l a : Bool) → is_level pt p ≡ l → is_above pt p ≡ a → (is_level pt p || beq (is_above pt p) false) ≡ true → Gap pt.y p.y
      go true a i j h = let z = eq_z_true p.y pt.y i in gap pt.y p.y (omega (arith, ap pp z, ap np z))
      go false false i j h = gap pt.y p.y (ge_parts p.y pt.y j)
      go false true i j h = absurd (false≢true (rw (i, j) at h))

  strictly_below : is_level pt p ≡ false → is_above pt p ≡ false → Past pt.y p.y
  strictly_below e f =
      past pt.y p.y (strict (ge_parts p.y pt.y f) (λ z. eq_z_false p.y pt.y e (parts_inj p.y pt.y z)))
    where
      strict : {m n : ℕ} → m ≤ n → (n ≡ m → ⊥) → m < n
      strict {m} {n} h k = omega arith

  strictly_above : is_above pt p ≡ true → Past p.y pt.y
  strictly_above f = past p.y pt.y (lt_parts p.y pt.y f)

beq_true : (a : Bool) → beq a true ≡ false → a ≡ false
beq_true true e = e
beq_true false e = refl

beq_false : (a : Bool) → beq a false ≡ false → a ≡ true
beq_false true e = refl
beq_false false e = sym e

-- ---- the shortcuts
module _ (pt : Point) (p q : Point) where
  pub over_right : (above : Bool) → GoesOver pt above p q → lt_z pt.x p.x ≡ true → lt_z pt.x q.x ≡ true → Passes ≡ over_way above (cross_product_sign p q pt)
  unfolding over_way cross_product_sign ab cd
  over_right true o f g =
      sym (ap (over_way true)
      (right_above pt.x pt.y p.x p.y q.x q.y (past pt.x p.x (lt_parts pt.x p.x f)) (strictly_below pt q o.off (beq_true (is_above pt q) o.other))
      (below_or_level pt p true refl o.from) (past pt.x q.x (lt_parts pt.x q.x g))))
  over_right false o f g =
      sym (ap (over_way false)
      (right_below pt.x pt.y p.x p.y q.x q.y (past pt.x p.x (lt_parts pt.x p.x f)) (strictly_above pt q (beq_false (is_above pt q) o.other))
      (above_or_level pt p false refl o.from) (past pt.x q.x (lt_parts pt.x q.x g))))

  pub over_left : (above : Bool) → GoesOver pt above p q → lt_z p.x pt.x ≡ true → lt_z q.x pt.x ≡ true → Crosses ≡ over_way above (cross_product_sign p q pt)
  unfolding over_way cross_product_sign ab cd
  over_left true o f g =
      sym (ap (over_way true)
      (left_above pt.x pt.y p.x p.y q.x q.y (past p.x pt.x (lt_parts p.x pt.x f)) (strictly_below pt q o.off (beq_true (is_above pt q) o.other))
      (below_or_level pt p true refl o.from) (past q.x pt.x (lt_parts q.x pt.x g))))
  over_left false o f g =
      sym (ap (over_way false)
      (left_below pt.x pt.y p.x p.y q.x q.y (past p.x pt.x (lt_parts p.x pt.x f)) (strictly_above pt q (beq_false (is_above pt q) o.other))
      (above_or_level pt p false refl o.from) (past q.x pt.x (lt_parts q.x pt.x g))))
