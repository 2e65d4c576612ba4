-- The fields of a tray, path by path.
use Prim.Native.Nat.{ℕ, zero, suc, ◌+◌, ◌-◌, ◌/◌, ◌≤◌, ◌<◌}
use mathlib.Core.Path.{◌≡◌, refl, sym, ap, ◌∙◌, subst}
use mathlib.Core.List.{List, [], ◌∷◌, ◌++◌}
use native.Mathlib.Omega.{arith}
use lib.ListN.{length}
use Rattle.geometry.specs.declared.Point.{Point}
use Rattle.listing.specs.Fields.{value_length, next_field, path_in, paths_in, field_after}
use Rattle.listing.specs.Needs.{Run, FieldIn, FieldsIn}
use Rattle.listing.proofs.Heads.{field_sized}
use Rattle.paths.specs.Tray.{POINT}

pub field_run : (t : List ℕ) (f v : ℕ) → FieldIn t f → (v ≡ value_length t f) × (v < 65536) → Run t (v / POINT) (f + 3)
field_run t f v h e = (field_sized t f h v e.0 e.1).run

less : (k : ℕ) → 0 < k → k ≡ suc (k - 1)
less k h = omega arith

module _ (t : List ℕ) where
  pub fields_next : (left g : ℕ) → 0 < left → FieldsIn t left g → FieldIn t g × FieldsIn t (left - 1) (next_field t g)
  fields_next left g h f = subst (λ (m : ℕ). FieldsIn t m g) (less left h) f

  pub paths_next : (left g : ℕ) → 0 < left → paths_in t left g ≡ path_in t g ∷ paths_in t (left - 1) (next_field t g)
  paths_next left g h = ap (λ (m : ℕ). paths_in t m g) (less left h)

  pub paths_none : (left g : ℕ) → left ≤ 0 → paths_in t left g ≡ []
  paths_none left g h = let z : left ≡ 0 = omega arith in ap (λ (m : ℕ). paths_in t m g) z

  begins_in : (c a : ℕ) → FieldsIn t c a → a ≤ length t
  begins_in zero a f = f
  begins_in (suc c) a f = let h = f.0.head in omega arith

  pub fields_first : (i c a : ℕ) → FieldsIn t c a → i ≤ c → FieldsIn t i a
  fields_first zero c a f h = begins_in c a f
  fields_first (suc i) zero a f h = absurd (omega arith)
  fields_first (suc i) (suc c) a f h = (f.0, fields_first i c (next_field t a) f.1 (omega arith))

  pub fields_rest : (i c a : ℕ) → FieldsIn t c a → i ≤ c → FieldsIn t (c - i) (field_after t i a)
  fields_rest zero c a f h = let z : c ≡ c - 0 = omega arith in subst (λ (m : ℕ). FieldsIn t m a) z f
  fields_rest (suc i) zero a f h = absurd (omega arith)
  fields_rest (suc i) (suc c) a f h =
      let z : c - i ≡ suc c - suc i = omega arith in
      subst (λ (m : ℕ). FieldsIn t m (field_after t i (next_field t a))) z (fields_rest i c (next_field t a) f.1 (omega arith))

  pub after_more : (i a : ℕ) → field_after t (suc i) a ≡ next_field t (field_after t i a)
  after_more zero a = refl
  after_more (suc i) a = after_more i (next_field t a)

  pub paths_more : (i a : ℕ) → paths_in t (suc i) a ≡ paths_in t i a ++ (path_in t (field_after t i a) ∷ [])
  paths_more zero a = refl
  paths_more (suc i) a = ap (λ (l : List (List Point)). path_in t a ∷ l) (paths_more i (next_field t a))

  pub paths_length : (i a : ℕ) → length (paths_in t i a) ≡ i
  paths_length zero a = refl
  paths_length (suc i) a = ap suc (paths_length i (next_field t a))
