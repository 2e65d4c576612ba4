-- What the needs of the code come to: the test by what is read.
use Prim.Native.Nat.{ℕ}
use mathlib.Core.Path.{◌≡◌, sym, ap, ◌∙◌}
use mathlib.Core.Bool.{Bool, true, false, ◌||◌}
use mathlib.Core.List.{List}
use lib.Dec.{eqb}
use lib.IntN.{ℤ, pos}
use lib.Signed.{lt_z}
use Rattle.exact.proofs.Words.{i64, held_here, held_is, held_64, held_add, held_sub, held_mul}
use Rattle.geometry.specs.declared.Point.{Point}
use Rattle.geometry.specs.Plane.{dot_product_three_points}
use Rattle.lone.specs.Act.{drop_point}
use Rattle.store.specs.declared.boxed.Sides.{Sides}
use Rattle.store.specs.Field.{pt, rc, X, Y, NEXT, PREV, PRESENT}
use Rattle.store.specs.Words.{Store, view, cell}
use Rattle.store.specs.Boxes.{sides_at}
use Rattle.walks.specs.Ring.{OnRing}
use Rattle.turns.specs.Code.{act_is}
use Rattle.turns.specs.declared.Act as code
use Rattle.turns.specs.declared.Act.TheVariants.{Drop, Cut}
use Rattle.turns.specs.declared.Due as due
use Rattle.turns.specs.Reads.{Found, Valued, Three}
use Rattle.boxes.specs.AtHand.{side_word, back_at, spike_at, either_at, changes_at}

pub turns_back_is : (w : List ℕ) (p x n : ℕ) (a b c : Point) (d : ℤ) → Valued w p a → Valued w x b → Valued w n c → d ≡ dot_product_three_points a b c → lt_z (i64 d) (pos 0) ≡ back_at (view w) p x n
unfolding dot_product_three_points
turns_back_is w p x n a b c d A B C e =
    let f = A.in_table in
    let g = B.in_table in
    let h = C.in_table in
    let u = held_mul (held_sub (held_here g.x) (held_here f.x)) (held_sub (held_here h.x) (held_here g.x)) in
    let v = held_mul (held_sub (held_here g.y) (held_here f.y)) (held_sub (held_here h.y) (held_here g.y)) in
    let k = held_64 (held_is e (held_add u v)) tt in
    ap (λ (z : ℤ). lt_z z (pos 0)) k.is ∙ rw (A.is, B.is, C.is)

pub spike_is : (w : List ℕ) (x p n : ℕ) (r : Bool) → Found w (cell (pt PREV) w x) p → Found w (cell (pt NEXT) w x) n → r ≡ back_at (view w) p x n → r ≡ spike_at (view w) x
spike_is w x p n r P N e = e ∙ rw (P.is, N.is)

pub three : (w : List ℕ) (x j k p n : ℕ) → OnRing w x → Found w j p → Found w k n → Three w p x n
three w x j k p n o P N = record { one = P.on; two = o; three = N.on }

pub side_is : (s : Store) (b : Sides) (k x y : ℕ) → x ≡ s (pt X) k → y ≡ s (pt Y) k → (eqb b.left x || (eqb b.top y || (eqb b.right x || eqb b.bottom y))) ≡ side_word b s k
side_is s b k x y e f = rw (e, f)

module _ (w : List ℕ) (i x : ℕ) (b : Sides) (t : Bool) (p : Found w (cell (rc PRESENT) w i) x) (e : b ≡ sides_at w i) (f : t ≡ side_word b (view w) x) where
  there : t ≡ side_word (sides_at w i) (view w) (view w (rc PRESENT) i)
  there = f ∙ rw (e, p.is)

  pub off_side : t ≡ false → t ≡ changes_at (sides_at w i) (view w) (view w (rc PRESENT) i) drop_point
  off_side h = h ∙ off
    where
      off : false ≡ changes_at (sides_at w i) (view w) (view w (rc PRESENT) i) drop_point
      off = rw (sym there ∙ h)

  pub at_side : (r : Bool) → t ≡ true → r ≡ spike_at (view w) x → r ≡ changes_at (sides_at w i) (view w) (view w (rc PRESENT) i) drop_point
  at_side r h g = rw (sym there ∙ h) (g ∙ rw p.is)

  pub either_side : (y : ℕ) (r : Bool) → Found w (cell (pt NEXT) w x) y → r ≡ side_word b (view w) y → (t || r) ≡ either_at (sides_at w i) (view w) (view w (rc PRESENT) i)
  either_side y r n g = ap (λ (z : Bool). z || r) there ∙ ap (λ (z : Bool). side_word (sides_at w i) (view w) (view w (rc PRESENT) i) || z) (g ∙ rw (e, n.is, p.is))

module _ (w : List ℕ) (i : ℕ) (a : code.Act) (r : Bool) where
  pub drop_changes : a ≡ Drop → r ≡ changes_at (sides_at w i) (view w) (view w (rc PRESENT) i) drop_point → r ≡ changes_at (sides_at w i) (view w) (view w (rc PRESENT) i) (act_is a)
  drop_changes h f = rw h f

  pub cut_changes : (v : Point) (put off : Bool) (d : due.Due) → a ≡ Cut v put off d → r ≡ either_at (sides_at w i) (view w) (view w (rc PRESENT) i) → r ≡ changes_at (sides_at w i) (view w) (view w (rc PRESENT) i) (act_is a)
  cut_changes v put off d h f = rw h f
