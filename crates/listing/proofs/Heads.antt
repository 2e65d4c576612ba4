-- A path's line: its head, its points.
use Prim.Native.Nat.{ℕ, zero, suc, ◌+◌, ◌/◌, ◌≤◌, ◌<◌, ◌^◌}
use mathlib.Core.Path.{◌≡◌, refl, sym, ap, ◌∙◌, subst}
use mathlib.Core.Bool.{Bool, true, false}
use mathlib.Core.List.{List, [], ◌∷◌, ◌++◌}
use native.Mathlib.Omega.{arith}
use lib.IntN.{ℤ, nat_abs}
use lib.ListN.{length}
use mir.Syntax.{w64}
use mir.Val.{to_z, of_z}
use mir.Facts.{to_z-of_z}
use Rattle.exact.specs.Num.{Within}
use Rattle.exact.proofs.Size.{fits_size}
use Rattle.geometry.specs.Plane.{area_outpt}
use Rattle.geometry.specs.Table.{AllInTable}
use Rattle.geometry.proofs.Circles.{area_within}
use Rattle.paths.specs.Tray.{POINT}
use Rattle.text.specs.Pour.{poured, pour}
use Rattle.text.specs.Text.{SPACE, decimal, signed_text}
use Rattle.listing.specs.Words.{LINE}
use Rattle.listing.specs.Fields.{points_in, value_length, path_in}
use Rattle.listing.specs.Needs.{Sized, FieldIn}
use Rattle.listing.specs.Lines.{word_of, points_text, closed_head, head_of, line_of}
use Rattle.text.proofs.Pouring.{pour_more}

length_points : (t : List ℕ) (n at : ℕ) → length (points_in t n at) ≡ n
length_points t zero at = refl
length_points t (suc n) at = ap suc (length_points t n (at + POINT))

-- ---- a doubled area

module _ (t : List ℕ) (n at : ℕ) (s : Sized t n at) (r : ℤ) (e : r ≡ area_outpt (points_in t n at)) where
  small : nat_abs (area_outpt (points_in t n at)) ≤ 2 ^ 56
  small = omega (arith, (area_within (points_in t n at) s.run.small).size, length_points t n at, s.few)

  pub area_held : to_z w64 (of_z w64 r) ≡ area_outpt (points_in t n at)
  area_held = to_z-of_z {w = w64} (rw e (fits_size w64 (area_outpt (points_in t n at)) (omega (arith, small)))) ∙ e

  pub area_asked : Within (2 ^ 62) (to_z w64 (of_z w64 r))
  area_asked = rw area_held (record { size = omega (arith, small) })

  pub closed_poured : (rev : Bool) (k a b c d : ℕ) (o₁ o₂ o₃ o₄ o₅ : List ℕ)
      → poured a o₂ ≡ pour (word_of rev (to_z w64 (of_z w64 r)) ++ (SPACE ∷ [])) k o₁ → poured b o₃ ≡ pour (decimal n) a o₂ → poured c o₄ ≡ pour (32 ∷ []) b o₃
      → poured d o₅ ≡ pour (signed_text (to_z w64 (of_z w64 r))) c o₄ → poured d o₅ ≡ pour (closed_head rev (points_in t n at)) k o₁
  closed_poured rev k a b c d o₁ o₂ o₃ o₄ o₅ f g h i =
      let z = to_z w64 (of_z w64 r) in
      pour_more (word_of rev z ++ (SPACE ∷ []) ++ decimal n ++ (32 ∷ [])) (signed_text z) o₁ o₄ o₅ k c d
      (pour_more (word_of rev z ++ (SPACE ∷ []) ++ decimal n) (32 ∷ []) o₁ o₃ o₄ k b c (pour_more (word_of rev z ++ (SPACE ∷ [])) (decimal n) o₁ o₂ o₃ k a b f g) h)
      i
      ∙ ap (λ (y : ℤ). pour (word_of rev y ++ (SPACE ∷ []) ++ decimal n ++ (32 ∷ []) ++ signed_text y) k o₁) area_held
      ∙ ap (λ (m : ℕ). pour (word_of rev (area_outpt (points_in t n at)) ++ (SPACE ∷ []) ++ decimal m ++ (32 ∷ []) ++ signed_text (area_outpt (points_in t n at))) k o₁) (sym (length_points t n at))

-- ---- open or closed

pub open_head : (t : List ℕ) (n at : ℕ) (rev o : Bool) (k a b : ℕ) (o₁ o₂ o₃ : List ℕ) → o ≡ true → poured a o₂ ≡ pour (LINE ++ (SPACE ∷ [])) k o₁ → poured b o₃ ≡ pour (decimal n) a o₂
    → poured b o₃ ≡ pour (head_of rev o (points_in t n at)) k o₁
open_head t n at rev o k a b o₁ o₂ o₃ e f g =
    pour_more (LINE ++ (SPACE ∷ [])) (decimal n) o₁ o₂ o₃ k a b f g
    ∙ ap (λ (m : ℕ). pour (LINE ++ (SPACE ∷ []) ++ decimal m) k o₁) (sym (length_points t n at))
    ∙ ap (λ (x : Bool). pour (head_of rev x (points_in t n at)) k o₁) (sym e)

pub closed_head_lem : (t : List ℕ) (n at : ℕ) (rev o : Bool) (k a : ℕ) (o₁ o₂ : List ℕ) → o ≡ false → poured a o₂ ≡ pour (closed_head rev (points_in t n at)) k o₁ → poured a o₂ ≡ pour (head_of rev o (points_in t n at)) k o₁
closed_head_lem t n at rev o k a o₁ o₂ e f = f ∙ ap (λ (x : Bool). pour (head_of rev x (points_in t n at)) k o₁) (sym e)

-- ---- a line

module _ (t : List ℕ) (from : ℕ) (f : FieldIn t from) (v : ℕ) (e : v ≡ value_length t from) (l : v < 65536) where
  pub field_sized : Sized t (v / POINT) (from + 3)
  field_sized =
      record {
        run = record { inside = omega (arith, f.inside, e); small = subst (λ (k : ℕ). AllInTable (points_in t (k / POINT) (from + 3))) (sym e) f.small };
        few = omega arith;
      }

  pub line_poured : (rev o : Bool) (k a b c : ℕ) (o₁ o₂ o₃ o₄ : List ℕ) → poured a o₂ ≡ pour (head_of rev o (points_in t (v / POINT) (from + 3))) k o₁
      → poured b o₃ ≡ pour (points_text (points_in t (v / POINT) (from + 3))) a o₂ → poured c o₄ ≡ pour (10 ∷ []) b o₃ → poured c o₄ ≡ pour (line_of rev o (path_in t from)) k o₁
  line_poured rev o k a b c o₁ o₂ o₃ o₄ g h i =
      pour_more (head_of rev o (points_in t (v / POINT) (from + 3)) ++ points_text (points_in t (v / POINT) (from + 3))) (10 ∷ []) o₁ o₃ o₄ k b c
      (pour_more (head_of rev o (points_in t (v / POINT) (from + 3))) (points_text (points_in t (v / POINT) (from + 3))) o₁ o₂ o₃ k a b g h)
      i
      ∙ ap (λ (m : ℕ). pour (line_of rev o (points_in t (m / POINT) (from + 3))) k o₁) e
