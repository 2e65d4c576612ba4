-- The bytes and the areas of paths in opposite order.
use Prim.Native.Nat.{ℕ, ◌+◌, ◌*◌}
use mathlib.Core.Path.{◌≡◌, refl, sym, ap, ◌∙◌}
use mathlib.Core.Bool.{true, false}
use mathlib.Core.List.{List, [], ◌∷◌, map, reverse}
use native.Mathlib.Omega.{arith}
use lib.IntN.{ℤ, nat_abs, neg_ℤ}
use lib.ListN.{length, length-append, length-reverse, length-map}
use Rattle.exact.proofs.Size.{size_neg}
use Rattle.rates.specs.Charge.{charge_of}
use Rattle.geometry.specs.declared.Point.{Point}
use Rattle.geometry.specs.Plane.{ground, area_outpt}
use Rattle.geometry.proofs.Circles.{area_reversed, area_ground}
use Rattle.paths.specs.Tray.{tag_of, low_bytes, path_bytes, path_field, fields}
use Rattle.paths.proofs.Laying.{length_path_bytes}
use Rattle.opposite.specs.Opposite.{on_ground, all_on_ground, opposite}
use Rattle.listing.specs.Charge.{net_area, charge_text, charge_line}
use Rattle.listing.proofs.Senses.{net_turned}
use Rattle.turned.specs.Turned.{doubled_areas, tray_bytes}

-- ---- bytes

length_field : (tag : ℕ) (path : List Point) → length (path_field tag path) ≡ 3 + 12 * length path
unfolding path_field
length_field tag path = omega (arith, length-append (low_bytes 2 (12 * length path)) (path_bytes path), length_path_bytes path)

-- ---- paths of as many points, place by place

length_fields : (tag : ℕ) (ps : List (List Point)) → length (fields tag (opposite ps)) ≡ length (fields tag ps)
length_fields tag [] = refl
length_fields tag (p ∷ ps) =
    omega (arith, length-append (path_field tag (reverse p)) (fields tag (opposite ps)), length-append (path_field tag p) (fields tag ps), length_field tag (reverse p), length_field tag p, length-reverse p, length_fields tag ps)

length_ground : (tag : ℕ) (ps : List (List Point)) → length (fields tag (all_on_ground ps)) ≡ length (fields tag ps)
length_ground tag [] = refl
length_ground tag (p ∷ ps) =
    omega (arith, length-append (path_field tag (on_ground p)) (fields tag (all_on_ground ps)), length-append (path_field tag p) (fields tag ps), length_field tag (on_ground p), length_field tag p, length-map p ground, length_ground tag ps)

module _ (cs ds : List (List Point)) (e : all_on_ground ds ≡ opposite (all_on_ground cs)) where
  pub as_many : length ds ≡ length cs
  as_many = sym (length-map ds on_ground) ∙ ap length e ∙ length-map (all_on_ground cs) reverse ∙ length-map cs on_ground

  same_fields : (tag : ℕ) → length (fields tag ds) ≡ length (fields tag cs)
  same_fields tag = sym (length_ground tag ds) ∙ ap (λ (l : List (List Point)). length (fields tag l)) e ∙ length_fields tag (all_on_ground cs) ∙ length_ground tag cs

pub same_used : (cs os ds ps : List (List Point)) → all_on_ground ds ≡ opposite (all_on_ground cs) → all_on_ground ps ≡ opposite (all_on_ground os) → length (tray_bytes ds ps) ≡ length (tray_bytes cs os)
same_used cs os ds ps e f =
    omega (arith, length-append (fields (tag_of false) ds) (fields (tag_of true) ps), length-append (fields (tag_of false) cs) (fields (tag_of true) os), same_fields cs ds e 6, same_fields os ps f 7)

-- ---- areas

areas_opposite : (cs : List (List Point)) → doubled_areas (opposite cs) ≡ map neg_ℤ (doubled_areas cs)
areas_opposite [] = refl
areas_opposite (c ∷ cs) = ap (λ (z : ℤ). z ∷ doubled_areas (opposite cs)) (area_reversed c) ∙ ap (λ (l : List ℤ). neg_ℤ (area_outpt c) ∷ l) (areas_opposite cs)

areas_ground : (cs : List (List Point)) → doubled_areas (all_on_ground cs) ≡ doubled_areas cs
areas_ground [] = refl
areas_ground (c ∷ cs) = rw (area_ground c, areas_ground cs)

net_ground : (cs : List (List Point)) → net_area (all_on_ground cs) ≡ net_area cs
net_ground [] = refl
net_ground (c ∷ cs) = rw (area_ground c, net_ground cs)

module _ (cs ds : List (List Point)) (e : all_on_ground ds ≡ opposite (all_on_ground cs)) where
  pub areas_other : doubled_areas ds ≡ map neg_ℤ (doubled_areas cs)
  areas_other = sym (areas_ground ds) ∙ ap doubled_areas e ∙ areas_opposite (all_on_ground cs) ∙ ap (map neg_ℤ) (areas_ground cs)

  pub net_other : net_area ds ≡ neg_ℤ (net_area cs)
  net_other = sym (net_ground ds) ∙ ap net_area e ∙ net_turned (all_on_ground cs) ∙ ap neg_ℤ (net_ground cs)

  -- ---- the charge

  pub size_other : nat_abs (net_area ds) ≡ nat_abs (net_area cs)
  size_other = ap nat_abs net_other ∙ size_neg (net_area cs)

  pub charges_other : (rate : ℕ) → charge_line rate ds ≡ charge_line rate cs
  charges_other rate = ap (λ (n : ℕ). charge_text (charge_of n rate)) size_other
