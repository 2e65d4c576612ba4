-- A point in line with its neighbours and no spike lies in the box of the two: so dropping it leaves the ring's box. Assumes nothing.
use mathlib.Core.Path.{◌≡◌, refl, sym, ap, ◌∙◌}
use mathlib.Core.Logic.{◌⊎◌, inl, inr}
use mathlib.Core.Bool.{Bool, true, false, not, ◌&&◌, ◌||◌, true≢false, false≢true}
use mathlib.Core.List.{List, [], ◌∷◌}
use Prim.Native.Nat.{ℕ, zero, suc, ◌+◌, ◌*◌}
use native.Mathlib.Omega.{arith}
use lib.IntN.{ℤ, pos, negsuc, ◌+ℤ◌, ◌-ℤ◌, ◌*ℤ◌, +ℤ_comm, *ℤ_comm}
use lib.Signed.{lt_z, ◌≤ℤ◌}
use Rattle.exact.proofs.Size.{eq_z_true}
use Rattle.exact.proofs.Parts.{pp, np, parts_add, parts_sub, parts_le_z}
use Rattle.exact.proofs.Linear.{parts_mul}
use Rattle.rings.specs.Circle.{last_of}
use Rattle.geometry.specs.declared.Point.{Point}
use Rattle.geometry.specs.Plane.{is_collinear, dot_product_three_points, removable}
use Rattle.geometry.specs.Box.{lesser, greater, around, box_of}
use Rattle.boxes.specs.Within.{RectWithin}
use Rattle.boxes.proofs.Sizes.{le_then, lesser_left, lesser_right, greater_left, greater_right, span}
use Rattle.boxes.proofs.Boxes.{box_between}

not_negative : (z : ℤ) → lt_z z (pos 0) ≡ false → np z ≡ 0
not_negative (pos n) h = refl
not_negative (negsuc n) h = absurd (true≢false h)

-- a step forward and a step back, in line, with a product that is not negative: there are none
opposite : (m n : ℕ) (u v : ℤ) → pos (suc m) *ℤ v ≡ u *ℤ negsuc n → lt_z (pos (suc m) *ℤ negsuc n +ℤ u *ℤ v) (pos 0) ≡ false → ⊥
opposite m n (pos k) (pos l) e d =
    let s = not_negative (pos (suc m) *ℤ negsuc n +ℤ pos k *ℤ pos l) d in
    let t = parts_add (pos (suc m) *ℤ negsuc n) (pos k *ℤ pos l) in
    let i = parts_mul (pos (suc m)) (negsuc n) in
    let j = parts_mul (pos k) (negsuc n) in
    let p = ap pp e in
    let q = ap np e in
    let z : l ≡ 0 = omega arith in
    let y : k * l ≡ k * 0 = ap (λ (x : ℕ). k * x) z in
    omega arith
opposite m n (pos k) (negsuc l) e d =
    let s = not_negative (pos (suc m) *ℤ negsuc n +ℤ pos k *ℤ negsuc l) d in
    let t = parts_add (pos (suc m) *ℤ negsuc n) (pos k *ℤ negsuc l) in
    let i = parts_mul (pos (suc m)) (negsuc n) in
    let j = parts_mul (pos k) (negsuc l) in
    omega arith
opposite m n (negsuc k) (pos l) e d =
    let s = not_negative (pos (suc m) *ℤ negsuc n +ℤ negsuc k *ℤ pos l) d in
    let t = parts_add (pos (suc m) *ℤ negsuc n) (negsuc k *ℤ pos l) in
    let i = parts_mul (pos (suc m)) (negsuc n) in
    let j = parts_mul (negsuc k) (pos l) in
    omega arith
opposite m n (negsuc k) (negsuc l) e d =
    let i = parts_mul (pos (suc m)) (negsuc l) in
    let p = ap pp e in
    let q = ap np e in
    omega arith

-- both forward, or both back
data SameWay (a b : ℤ) : Type 0 where
  forward : np a ≡ 0 → np b ≡ 0 → SameWay a b
  backward : pp a ≡ 0 → pp b ≡ 0 → SameWay a b

same_way : (a b u v : ℤ) → a *ℤ v ≡ u *ℤ b → lt_z (a *ℤ b +ℤ u *ℤ v) (pos 0) ≡ false → SameWay a b
same_way (pos m) (pos n) u v e d = forward refl refl
same_way (negsuc m) (negsuc n) u v e d = backward refl refl
same_way (pos zero) (negsuc n) u v e d = backward refl refl
same_way (pos (suc m)) (negsuc n) u v e d = absurd (opposite m n u v e d)
same_way (negsuc m) (pos zero) u v e d = backward refl refl
same_way (negsuc m) (pos (suc n)) u v e d =
    absurd (opposite n m v u (*ℤ_comm (pos (suc n)) u ∙ sym e ∙ *ℤ_comm (negsuc m) v)
    (ap (λ (z : ℤ). lt_z (z +ℤ v *ℤ u) (pos 0)) (*ℤ_comm (pos (suc n)) (negsuc m)) ∙ ap (λ (z : ℤ). lt_z (negsuc m *ℤ pos (suc n) +ℤ z) (pos 0)) (*ℤ_comm v u) ∙ d))

ahead_le : (a b : ℤ) → np (b -ℤ a) ≡ 0 → a ≤ℤ b
ahead_le a b h = let s = parts_sub b a in record { le = parts_le_z a b (record { parts = omega arith }) }

behind_le : (a b : ℤ) → pp (b -ℤ a) ≡ 0 → b ≤ℤ a
behind_le a b h = let s = parts_sub b a in record { le = parts_le_z b a (record { parts = omega arith }) }

-- p lies between a and b, ends counted
record Amid (a b p : ℤ) : Type 0 where
  low : lesser a b ≤ℤ p
  high : p ≤ℤ greater a b

amid : (a p b : ℤ) → SameWay (p -ℤ a) (b -ℤ p) → Amid a b p
amid a p b (forward h k) = record { low = le_then (lesser_left a b) (ahead_le a p h); high = le_then (ahead_le p b k) (greater_right a b) }
amid a p b (backward h k) = record { low = le_then (lesser_right a b) (behind_le p b k); high = le_then (behind_le a p h) (greater_left a b) }

module _ (prev pt next : Point) (line : is_collinear prev pt next ≡ true) (ahead : lt_z (dot_product_three_points prev pt next) (pos 0) ≡ false) where
  abbrev ax : ℤ
  ax = pt.x -ℤ prev.x

  abbrev ay : ℤ
  ay = pt.y -ℤ prev.y

  abbrev bx : ℤ
  bx = next.x -ℤ pt.x

  abbrev by : ℤ
  by = next.y -ℤ pt.y

  in_line_lem : ax *ℤ by ≡ ay *ℤ bx
  unfolding is_collinear
  in_line_lem = eq_z_true (ax *ℤ by) (ay *ℤ bx) line

  dot : lt_z (ax *ℤ bx +ℤ ay *ℤ by) (pos 0) ≡ false
  unfolding dot_product_three_points
  dot = ahead

  dot' : lt_z (ay *ℤ by +ℤ ax *ℤ bx) (pos 0) ≡ false
  dot' = ap (λ (z : ℤ). lt_z z (pos 0)) (+ℤ_comm (ay *ℤ by) (ax *ℤ bx)) ∙ dot

  across : Amid prev.x next.x pt.x
  across = amid prev.x pt.x next.x (same_way ax bx ay by in_line_lem dot)

  upright : Amid prev.y next.y pt.y
  upright = amid prev.y pt.y next.y (same_way ay by ax bx (sym in_line_lem) dot')

  -- in line between its neighbours, ends counted
  pub line_within : RectWithin (around pt) (span (around prev) (around next))
  line_within = record { left = across.low; top = upright.low; right = across.high; bottom = upright.high }

-- the removal test holds only of points in line
pub removable_line : (preserve : Bool) (prev pt next : Point) → removable preserve prev pt next ≡ true → is_collinear prev pt next ≡ true
unfolding removable
removable_line preserve prev pt next h = go (is_collinear prev pt next) _ h
  where
    go : (a b : Bool) → (a && b) ≡ true → a ≡ true
    go true b e = refl
    go false b e = absurd (false≢true e)

-- dropped where it is no spike, of a circle of at least two points
pub box_dropped : (x y : Point) (r : List Point) → is_collinear (last_of y r) x y ≡ true → lt_z (dot_product_three_points (last_of y r) x y) (pos 0) ≡ false → box_of (y ∷ r) ≡ box_of (x ∷ y ∷ r)
box_dropped x y r h k = box_between x y r (line_within (last_of y r) x y h k)
