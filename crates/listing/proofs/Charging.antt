-- The sum of the closed paths' doubled areas stays within 2^53; and the charge line.
use Prim.Native.Nat.{ℕ, zero, suc, ◌+◌, ◌-◌, ◌*◌, ◌/◌, ◌≤◌, ◌<◌, ◌^◌}
use mathlib.Core.Path.{◌≡◌, sym, ap, ◌∙◌, subst}
use mathlib.Core.Bool.{Bool}
use mathlib.Core.List.{List, [], ◌∷◌, ◌++◌}
use native.Mathlib.Omega.{arith}
use lib.IntN.{ℤ, pos, nat_abs, ◌+ℤ◌, +ℤ_assoc, +ℤ_idl, +ℤ_idr}
use lib.ListN.{length}
use mir.Syntax.{w64}
use mir.Val.{SFits, to_z, of_z}
use mir.Facts.{to_z-of_z}
use Rattle.exact.proofs.Size.{fits_size, size_add}
use Rattle.rates.specs.declared.Charge.{Charge}
use Rattle.rates.specs.Charge.{charge_of}
use Rattle.geometry.specs.Plane.{area_outpt}
use Rattle.geometry.proofs.Circles.{area_within}
use Rattle.paths.specs.Tray.{POINT}
use Rattle.text.specs.Pour.{poured, pour}
use Rattle.text.specs.Text.{SPACE, NEWLINE, decimal}
use Rattle.listing.specs.Words.{CHARGE}
use Rattle.listing.specs.Fields.{points_in, value_length, next_field, path_in, paths_in}
use Rattle.listing.specs.Lines.{listing_of}
use Rattle.listing.specs.Charge.{net_area, charge_text, charged_of}
use Rattle.listing.specs.Needs.{Sized, FieldIn, FieldsIn, Summable, Netting, point_count}
use Rattle.text.proofs.Pouring.{pour_more}
use Rattle.listing.proofs.Runs.{one_passed, all_passed, from_none}
use Rattle.listing.proofs.Heads.{field_sized}

pub netting_begins : (t : List ℕ) (n : ℕ) → Summable t n → Netting t n 0 (n - 0) (pos 0)
netting_begins t n s = from_none (λ (k : ℕ). Netting t n 0 k (pos 0)) n (record { rest = s.fields; sum = +ℤ_idl (net_area (paths_in t n 0)); low = omega (arith, s.few) })

module _ (t : List ℕ) (n f c i v : ℕ) (s : Netting t n f (c - i) (to_z w64 v)) where
  pub netting_ends : c ≤ i → to_z w64 v ≡ net_area (paths_in t n 0)
  netting_ends h =
      let z : c - i ≡ 0 = all_passed c i h in
      sym (+ℤ_idr (to_z w64 v)) ∙ ap (λ (k : ℕ). to_z w64 v +ℤ net_area (paths_in t k f)) (sym z) ∙ s.sum

  module _ (h : i < c) where
    fields : FieldIn t f × FieldsIn t (c - (i + 1)) (next_field t f)
    fields = subst (λ (m : ℕ). FieldsIn t m f) (one_passed c i h) s.rest

    pub netting_field : FieldIn t f
    netting_field = fields.0

    module _ (l : ℕ) (e : l ≡ value_length t f) (b : l < 65536) where
      pub netting_sized : Sized t (l / POINT) (f + 3)
      netting_sized = field_sized t f netting_field l e b

      module _ (d : ℤ) (g : d ≡ area_outpt (points_in t (l / POINT) (f + 3))) where
        is_path : d ≡ area_outpt (path_in t f)
        is_path = g ∙ ap (λ (k : ℕ). area_outpt (points_in t (k / POINT) (f + 3))) e

        small : nat_abs d ≤ length (path_in t f) * 2 ^ 42
        small = omega (arith, ap nat_abs is_path, (area_within (path_in t f) netting_field.small).size)

        next_low : nat_abs (to_z w64 v) + (length (path_in t f) + point_count (paths_in t (c - (i + 1)) (next_field t f))) * 2 ^ 42 ≤ 2 ^ 53
        next_low = subst (λ (m : ℕ). nat_abs (to_z w64 v) + point_count (paths_in t m f) * 2 ^ 42 ≤ 2 ^ 53) (one_passed c i h) s.low

        plain : to_z w64 v +ℤ to_z w64 (of_z w64 d) ≡ to_z w64 v +ℤ d
        plain = ap (λ (y : ℤ). to_z w64 v +ℤ y) (to_z-of_z (fits_size w64 d (omega (arith, small, next_low))))

        near : nat_abs (to_z w64 v +ℤ d) ≤ nat_abs (to_z w64 v) + length (path_in t f) * 2 ^ 42
        near = omega (arith, size_add (to_z w64 v) d, small)

        pub netting_fits : SFits w64 (to_z w64 v +ℤ to_z w64 (of_z w64 d))
        netting_fits = rw plain (fits_size w64 (to_z w64 v +ℤ d) (omega (arith, near, next_low)))

        pub netting_on : Netting t n (f + 3 + l) (c - (i + 1)) (to_z w64 (of_z w64 (to_z w64 v +ℤ to_z w64 (of_z w64 d))))
        netting_on =
            rw e
            (subst (λ (y : ℤ). Netting t n (next_field t f) (c - (i + 1)) y) (sym (to_z-of_z netting_fits ∙ plain))
            (record {
              rest = fields.1;
              sum =
                  +ℤ_assoc (to_z w64 v) d (net_area (paths_in t (c - (i + 1)) (next_field t f)))
                  ∙ ap (λ (y : ℤ). to_z w64 v +ℤ (y +ℤ net_area (paths_in t (c - (i + 1)) (next_field t f)))) is_path
                  ∙ ap (λ (k : ℕ). to_z w64 v +ℤ net_area (paths_in t k f)) (sym (one_passed c i h))
                  ∙ s.sum;
              low = omega (arith, near, next_low);
            }))

-- ---- the sum is small

module _ (t : List ℕ) where
  net_small : (n f : ℕ) → FieldsIn t n f → nat_abs (net_area (paths_in t n f)) ≤ point_count (paths_in t n f) * 2 ^ 42
  net_small zero f h = omega arith
  net_small (suc n) f h =
      omega (arith, size_add (area_outpt (path_in t f)) (net_area (paths_in t n (next_field t f))), (area_within (path_in t f) h.0.small).size, net_small n (next_field t f) h.1)

module _ (t : List ℕ) (n : ℕ) (s : Summable t n) (r : ℤ) (e : r ≡ net_area (paths_in t n 0)) where
  bound : nat_abs (net_area (paths_in t n 0)) ≤ 2 ^ 53
  bound = omega (arith, net_small t n 0 s.fields, s.few)

  held : to_z w64 (of_z w64 r) ≡ net_area (paths_in t n 0)
  held = to_z-of_z {w = w64} (rw e (fits_size w64 (net_area (paths_in t n 0)) (omega (arith, bound)))) ∙ e

  module _ (m : ℕ) (f : m ≡ nat_abs (to_z w64 (of_z w64 r))) where
    pub magnitude_small : m ≤ 2 ^ 53
    magnitude_small = omega (arith, f ∙ ap nat_abs held, bound)

    pub is_charged : (rate : ℕ) (c : Charge) → c ≡ charge_of m rate → c ≡ charge_of (nat_abs (net_area (paths_in t n 0))) rate
    is_charged rate c g = g ∙ ap (λ (k : ℕ). charge_of k rate) (f ∙ ap nat_abs held)

-- ---- the line

pub charge_poured : (c : Charge) (k a b d e g : ℕ) (o₁ o₂ o₃ o₄ o₅ o₆ : List ℕ) → poured a o₂ ≡ pour (CHARGE ++ (SPACE ∷ [])) k o₁ → poured b o₃ ≡ pour (decimal c.quotient) a o₂
    → poured d o₄ ≡ pour (SPACE ∷ []) b o₃ → poured e o₅ ≡ pour (decimal c.remainder) d o₄ → poured g o₆ ≡ pour (NEWLINE ∷ []) e o₅ → poured g o₆ ≡ pour (charge_text c) k o₁
charge_poured c k a b d e g o₁ o₂ o₃ o₄ o₅ o₆ h i j l m =
    pour_more (CHARGE ++ (SPACE ∷ []) ++ decimal c.quotient ++ (SPACE ∷ []) ++ decimal c.remainder) (NEWLINE ∷ []) o₁ o₅ o₆ k e g
    (pour_more (CHARGE ++ (SPACE ∷ []) ++ decimal c.quotient ++ (SPACE ∷ [])) (decimal c.remainder) o₁ o₄ o₅ k d e
    (pour_more (CHARGE ++ (SPACE ∷ []) ++ decimal c.quotient) (SPACE ∷ []) o₁ o₃ o₄ k b d (pour_more (CHARGE ++ (SPACE ∷ [])) (decimal c.quotient) o₁ o₂ o₃ k a b h i) j)
    l)
    m

pub charged_poured : (rev : Bool) (rate closed open' : ℕ) (t o₁ o₂ o₃ : List ℕ) (a b : ℕ) (c : Charge) → c ≡ charge_of (nat_abs (net_area (paths_in t closed 0))) rate → poured a o₂ ≡ pour (listing_of rev closed open' t) 0 o₁
    → poured b o₃ ≡ pour (charge_text c) a o₂ → poured b o₃ ≡ pour (charged_of rev rate closed open' t) 0 o₁
unfolding charged_of
charged_poured rev rate closed open' t o₁ o₂ o₃ a b c e f g =
    pour_more (listing_of rev closed open' t) (charge_text c) o₁ o₂ o₃ 0 a b f g
    ∙ ap (λ (x : Charge). pour (listing_of rev closed open' t ++ charge_text x) 0 o₁) e
