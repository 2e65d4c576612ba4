-- A window meets a ring's box exactly if some place lies in both, edges counted.
use mathlib.Core.Path.{◌≡◌, refl, sym, ap, ◌∙◌, subst}
use mathlib.Core.Logic.{◌↔◌}
use mathlib.Core.Bool.{Bool, true, false, not, ◌&&◌, ◌||◌, false≢true}
use mathlib.Core.List.{List, [], ◌∷◌}
use mathlib.Core.Option.{Option, none, some}
use lib.Dec.{T}
use lib.IntN.{ℤ}
use lib.Signed.{le_z, le_z_yes, ◌≤ℤ◌, ≤ℤ_refl}
use Rattle.geometry.specs.declared.Point.{Point}
use Rattle.geometry.specs.declared.Rect.{Rect}
use Rattle.geometry.specs.Box.{greater, around, box_of}
use Rattle.boxes.proofs.Sizes.{le_then, lesser_left, greater_left, greater_right, greater_most, join}
use Rattle.boxes.proofs.Boxes.{box_more}
use Rattle.windows.specs.Window.{overlap, box_meets, inside_out}
use Rattle.windows.specs.Windows.{Shared, ring_meets}

-- ---- along one axis
t_true : (b : Bool) → b ≡ true → T b
t_true true e = tt
t_true false e = absurd (false≢true e)

true_t : (b : Bool) → T b → b ≡ true
true_t true t = refl
true_t false t = absurd t

le_true : (a b : ℤ) → le_z a b ≡ true → a ≤ℤ b
le_true a b e = le_z_yes (t_true (le_z a b) e)

true_le : (a b : ℤ) → a ≤ℤ b → le_z a b ≡ true
true_le a b h = true_t (le_z a b) h.le

both : (a b : Bool) → (a && b) ≡ true → (a ≡ true) × (b ≡ true)
both true b e = (refl, e)
both false b e = absurd (false≢true e)

-- a place that lies between a and b and between c and d
record Common (a b c d : ℤ) : Type 0 where
  place : ℤ
  after_a : a ≤ℤ place
  before_b : place ≤ℤ b
  after_c : c ≤ℤ place
  before_d : place ≤ℤ d

common : (a b c d : ℤ) → a ≤ℤ b → overlap a b c d ≡ true → Common a b c d
common a b c d h e =
    let i = both (le_z c d) (le_z a d && le_z c b) e in
    let j = both (le_z a d) (le_z c b) i.1 in
    record {
      place = greater a c;
      after_a = greater_left a c;
      before_b = greater_most a c b h (le_true c b j.1);
      after_c = greater_right a c;
      before_d = greater_most a c d (le_true a d j.0) (le_true c d i.0);
    }

overlaps : (a b c d p : ℤ) → a ≤ℤ p → p ≤ℤ b → c ≤ℤ p → p ≤ℤ d → overlap a b c d ≡ true
overlaps a b c d p h i j k = rw (true_le c d (le_then j k), true_le a d (le_then h k), true_le c b (le_then j i))

-- ---- a ring's box has its sides in order
record Upright (b : Rect) : Type 0 where
  across : b.left ≤ℤ b.right
  down : b.top ≤ℤ b.bottom

abbrev UprightBox : Option Rect → Type 0
UprightBox none = Unit {0}
UprightBox (some b) = Upright b

upright : (c : List Point) → UprightBox (box_of c)
upright [] = tt
upright (p ∷ c) = subst UprightBox (sym (box_more p c)) (go (box_of c))
  where
    go : (b : Option Rect) → UprightBox (join (some (around p)) b)
    go none = record { across = ≤ℤ_refl p.x; down = ≤ℤ_refl p.y }
    go (some b) = record { across = le_then (lesser_left p.x b.left) (greater_left p.x b.right); down = le_then (lesser_left p.y b.top) (greater_left p.y b.bottom) }

meets_box : (window : Rect) (b : Option Rect) → UprightBox b → (ring_meets window b ≡ true) ↔ Shared window b
unfolding box_meets
meets_box window none u = (λ e. absurd (false≢true e), λ h. absurd h.in_box)
meets_box window (some b) u = (there, back)
  where
    there : (overlap b.left b.right window.left window.right && overlap b.top b.bottom window.top window.bottom) ≡ true → Shared window (some b)
    there e =
        let i = both (overlap b.left b.right window.left window.right) (overlap b.top b.bottom window.top window.bottom) e in
        let x = common b.left b.right window.left window.right u.across i.0 in
        let y = common b.top b.bottom window.top window.bottom u.down i.1 in
        record {
          place = record { x = x.place; y = y.place; z = 0 };
          in_window = record { left = x.after_c; top = y.after_c; right = x.before_d; bottom = y.before_d };
          in_box = record { left = x.after_a; top = y.after_a; right = x.before_b; bottom = y.before_b };
        }

    back : Shared window (some b) → (overlap b.left b.right window.left window.right && overlap b.top b.bottom window.top window.bottom) ≡ true
    back h =
        let x : overlap b.left b.right window.left window.right ≡ true =
        overlaps b.left b.right window.left window.right h.place.x h.in_box.left h.in_box.right h.in_window.left h.in_window.right in
        let y : overlap b.top b.bottom window.top window.bottom ≡ true =
        overlaps b.top b.bottom window.top window.bottom h.place.y h.in_box.top h.in_box.bottom h.in_window.top h.in_window.bottom in
        ap (λ (a : Bool). a && overlap b.top b.bottom window.top window.bottom) x ∙ y

pub meets_means : (window : Rect) (c : List Point) → (ring_meets window (box_of c) ≡ true) ↔ Shared window (box_of c)
meets_means window c = meets_box window (box_of c) (upright c)

-- "A window turned inside out meets nothing"
pub inside_out_lem : (window b : Rect) → inside_out window ≡ true → box_meets b window ≡ false
unfolding box_meets
inside_out_lem window b h = go (le_z window.left window.right) (le_z window.top window.bottom) (le_z b.left window.right && le_z window.left b.right) (le_z b.top window.bottom && le_z window.top b.bottom) h
  where
    go : (a b c d : Bool) → (not a || not b) ≡ true → ((a && c) && (b && d)) ≡ false
    go false b c d h = refl
    go true true c d h = absurd (false≢true h)
    go true false true d h = refl
    go true false false d h = refl
