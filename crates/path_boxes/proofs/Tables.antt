-- A table of boxes: what is read is what was put, and filling it goes field by field.
use Prim.Native.Nat.{ℕ, zero, suc, ◌+◌, ◌-◌, ◌/◌, ◌<◌, ◌≤◌}
use mathlib.Core.Path.{◌≡◌, refl, sym, ap, ◌∙◌, subst}
use mathlib.Core.Bool.{Bool, true, false}
use mathlib.Core.List.{List, [], ◌∷◌}
use mathlib.Core.Logic.{◌≢◌}
use mathlib.Core.Option.{some}
use native.Mathlib.Omega.{arith}
use lib.Dec.{ltb}
use lib.IntN.{pos}
use lib.ListN.{length, length-set}
use lib.Seq.{get_or-set_same, get_or-set_other}
use borrow.Author.Tests.{ltb-true, ltb-false}
use Rattle.geometry.specs.declared.Point.{Point}
use Rattle.geometry.specs.declared.Rect.{Rect}
use Rattle.geometry.specs.Box.{around, widen_all, box_of}
use Rattle.paths.specs.Tray.{POINT}
use Rattle.listing.specs.Fields.{points_in, value_length, next_field, path_in, field_after}
use Rattle.listing.specs.Needs.{Run, FieldIn, FieldsIn}
use Rattle.listing.proofs.Heads.{field_sized}
use Rattle.containing.specs.Outside.{AllEnclosed}
use Rattle.containing.proofs.Bounds.{bounds_enclose}
use Rattle.path_boxes.specs.Table.{nowhere, rect_at, put_rect, or_nowhere, filled, Boxed, Filling}

-- ---- one box
module _ (boxes : List Rect) (i : ℕ) (b : Rect) where
  pub put_length : length (put_rect boxes i b) ≡ length boxes
  put_length = rw length-set

  pub other_kept : (j : ℕ) → j < i → rect_at (put_rect boxes i b) j ≡ rect_at boxes j
  other_kept j h = get_or-set_other boxes i j b nowhere (λ e. omega arith)

  pub same_put : i < length boxes → rect_at (put_rect boxes i b) i ≡ b
  same_put h = get_or-set_same boxes i b nowhere h

-- ---- the box of a field's path
within_own : (ps : List Point) → AllEnclosed (or_nowhere (box_of ps)) ps
within_own [] = tt
within_own (p ∷ ps) = bounds_enclose (p ∷ ps) (widen_all (around p) ps) refl

module _ (t : List ℕ) (f v : ℕ) (h : FieldIn t f) (e : (v ≡ value_length t f) × (v < 65536)) where
  pub field_run : Run t (v / POINT) (f + 3)
  field_run = (field_sized t f h v e.0 e.1).run

  path_is : points_in t (v / POINT) (f + 3) ≡ path_in t f
  path_is = ap (λ (k : ℕ). points_in t (k / POINT) (f + 3)) e.0

  pub none_is : v / POINT ≡ 0 → ◌≡◌ {A = Rect} (record { left = pos 0; top = pos 0; right = pos 0; bottom = pos 0 }) (or_nowhere (box_of (path_in t f)))
  none_is z = ap (λ (l : List Point). or_nowhere (box_of l)) (ap (λ (k : ℕ). points_in t k (f + 3)) (sym z) ∙ path_is)

  pub has_points : v / POINT ≢ 0 → 0 < v / POINT
  has_points z = omega arith

  pub some_is : (b : Rect) → some b ≡ box_of (points_in t (v / POINT) (f + 3)) → b ≡ or_nowhere (box_of (path_in t f))
  some_is b g = ap or_nowhere (g ∙ ap box_of path_is)

-- ---- filling
pub filling_begins : (t : List ℕ) (c : ℕ) (boxes : List Rect) → FieldsIn t c 0 → c ≤ length boxes → Filling t c (length boxes) (filled t c 0 0 boxes) boxes 0 0
filling_begins t c boxes h k =
    let z : c ≡ c - 0 = omega arith in record { low = omega arith; size = refl; long = k; rest = subst (λ (m : ℕ). FieldsIn t m 0) z h; all = ap (λ (m : ℕ). filled t m 0 0 boxes) (sym z) }

module _ (t : List ℕ) (c n : ℕ) (total boxes : List Rect) (f i : ℕ) (s : Filling t c n total boxes f i) where
  pub filling_size : length boxes ≡ n
  filling_size = s.size

  pub filling_ends : c ≤ i → boxes ≡ total
  filling_ends h = let z : c - i ≡ 0 = omega (arith, s.low) in ap (λ (m : ℕ). filled t m i f boxes) (sym z) ∙ s.all

  module _ (h : i < c) where
    more : c - i ≡ suc (c - (i + 1))
    more = omega arith

    here : FieldIn t f × FieldsIn t (c - (i + 1)) (next_field t f)
    here = subst (λ (m : ℕ). FieldsIn t m f) more s.rest

    pub filling_field : FieldIn t f
    filling_field = here.0

    pub filling_room : i < length boxes
    filling_room = omega (arith, s.long, s.size)

    pub filling_on : (b : Rect) (v : ℕ) (boxes' : List Rect) → b ≡ or_nowhere (box_of (path_in t f)) → boxes' ≡ put_rect boxes i b → (v ≡ value_length t f) × (v < 65536) → Filling t c n total boxes' (f + 3 + v) (i + 1)
    filling_on b v boxes' g e k =
        let z : i + 1 ≡ suc i = omega arith in
        let y : f + 3 + v ≡ next_field t f = ap (λ (x : ℕ). f + 3 + x) k.0 in
        record {
          low = omega arith;
          size = ap length e ∙ put_length boxes i b ∙ s.size;
          long = s.long;
          rest = subst (FieldsIn t (c - (i + 1))) (sym y) here.1;
          all =
              ap (λ (x : List Rect). filled t (c - (i + 1)) (i + 1) (f + 3 + v) x) (e ∙ ap (put_rect boxes i) g)
              ∙ ap (λ (m : ℕ). filled t (c - (i + 1)) m (f + 3 + v) (put_rect boxes i (or_nowhere (box_of (path_in t f))))) z
              ∙ ap (λ (m : ℕ). filled t (c - (i + 1)) (suc i) m (put_rect boxes i (or_nowhere (box_of (path_in t f))))) y
              ∙ ap (λ (m : ℕ). filled t m i f boxes) (sym more)
              ∙ s.all;
        }

-- ---- so each path lies within its box
after_more : (t : List ℕ) (i a : ℕ) → field_after t (suc i) a ≡ next_field t (field_after t i a)
after_more t zero a = refl
after_more t (suc i) a = after_more t i (next_field t a)

one_more : (t : List ℕ) (boxes : List Rect) (i f : ℕ) → i < length boxes → f ≡ field_after t i 0 → ((j : ℕ) → j < i → AllEnclosed (rect_at boxes j) (path_in t (field_after t j 0)))
    → (j : ℕ) → j < suc i → AllEnclosed (rect_at (put_rect boxes i (or_nowhere (box_of (path_in t f)))) j) (path_in t (field_after t j 0))
one_more t boxes i f room e each j l = go (ltb j i) refl
  where
    go : (u : Bool) → ltb j i ≡ u → AllEnclosed (rect_at (put_rect boxes i (or_nowhere (box_of (path_in t f)))) j) (path_in t (field_after t j 0))
    go true x =
        let y = ltb-true j i x in
        subst (λ (r : Rect). AllEnclosed r (path_in t (field_after t j 0))) (sym (other_kept boxes i (or_nowhere (box_of (path_in t f))) j y)) (each j y)
    go false x =
        let y : i ≡ j = omega (arith, ltb-false j i x) in
        subst (λ (m : ℕ). AllEnclosed (rect_at (put_rect boxes i (or_nowhere (box_of (path_in t f)))) m) (path_in t (field_after t m 0))) y
        (subst (λ (r : Rect). AllEnclosed r (path_in t (field_after t i 0))) (sym (same_put boxes i (or_nowhere (box_of (path_in t f))) room))
        (subst (λ (m : ℕ). AllEnclosed (or_nowhere (box_of (path_in t f))) (path_in t m)) e (within_own (path_in t f))))

filled_from : (t : List ℕ) (n i f : ℕ) (boxes : List Rect) → i + n ≤ length boxes → f ≡ field_after t i 0 → ((j : ℕ) → j < i → AllEnclosed (rect_at boxes j) (path_in t (field_after t j 0))) → Boxed t (filled t n i f boxes) (i + n)
filled_from t zero i f boxes h e each = record { long = h; each = λ j l. each j (omega arith) }
filled_from t (suc n) i f boxes h e each =
    let z : suc i + n ≡ i + suc n = omega arith in
    let b = or_nowhere (box_of (path_in t f)) in
    subst (Boxed t (filled t n (suc i) (next_field t f) (put_rect boxes i b))) z
    (filled_from t n (suc i) (next_field t f) (put_rect boxes i b) (omega (arith, put_length boxes i b)) (ap (next_field t) e ∙ sym (after_more t i 0)) (one_more t boxes i f (omega arith) e each))

pub filled_boxed : (t : List ℕ) (c : ℕ) (boxes boxes' : List Rect) → c ≤ length boxes → boxes' ≡ filled t c 0 0 boxes → Boxed t boxes' c
filled_boxed t c boxes boxes' h e =
    let z : 0 + c ≡ c = omega arith in
    subst (λ (x : List Rect). Boxed t x c) (sym e) (subst (Boxed t (filled t c 0 0 boxes)) z (filled_from t c 0 0 boxes (omega arith) refl (λ j l. absurd (omega arith))))
