-- Bytes of one number after those of another: a field.
use Rattle.std.proofs.Common.{◌≡◌, ℕ, ◌+◌, ◌*◌, ◌/◌, ◌%◌, ◌^◌, ◌≤◌, List, [], ◌∷◌, ◌++◌, sym, ap, ◌∙◌, div-one, arith}
use Prim.Native.Nat.{suc}
use Rattle.std.proofs.Math.Nat.{div-div-eq-div-mul, pow-suc}
use Rattle.numbers.specs.Raised.{lowered}
use Rattle.job.specs.Limits.{COORDINATE}
use Rattle.job.specs.declared.field.Field.TheVariants.{Settings, Point, Record, Segment, Join}
use Rattle.paths.specs.Tray.{low_bytes}
use Rattle.text.specs.Pour.{poured, pour}
use Rattle.text.proofs.Pouring.{pour_none, pour_more}
use Rattle.encoding.specs.Sheet.{coordinate_bytes, bytes_of}

-- ---- numbers: the low bytes of v, one after the other

pub low_begun : (v at : ℕ) (t : List ℕ) → (v ≡ v / 256 ^ 0) × (poured at t ≡ pour (low_bytes 0 v) at t)
low_begun v at t = (sym (div-one v), pour_none t at)

pub low_more : (v rest at k q i : ℕ) (t u x : List ℕ) → rest ≡ v / 256 ^ i → poured k u ≡ pour (low_bytes i v) at t → poured q x ≡ pour (rest % 256 ∷ []) k u
    → (rest / 256 ≡ v / 256 ^ (i + 1)) × (poured q x ≡ pour (low_bytes (i + 1) v) at t)
low_more v rest at k q i t u x e f g =
    let z : i + 1 ≡ suc i = omega arith in (
      ap (λ (r : ℕ). r / 256) e ∙ div-div-eq-div-mul v (256 ^ i) 256 ∙ ap (λ (m : ℕ). v / m) (sym (pow-suc 256 i)) ∙ ap (λ (n : ℕ). v / 256 ^ n) (sym z),
      pour_more (low_bytes i v) (rest % 256 ∷ []) t u x at k q f g
          ∙ ap (λ (r : ℕ). pour (low_bytes i v ++ (r % 256 ∷ [])) at t) e
          ∙ ap (λ (n : ℕ). pour (low_bytes n v) at t) (sym z),
    )

pub low_all : (n v at k i : ℕ) (t u : List ℕ) → poured k u ≡ pour (low_bytes i v) at t → i ≤ n → n ≤ i → poured k u ≡ pour (low_bytes n v) at t
low_all n v at k i t u e h g = let z : i ≡ n = omega arith in e ∙ ap (λ (j : ℕ). pour (low_bytes j v) at t) z

pub coordinate_poured : (x v at q : ℕ) (t u : List ℕ) → v ≡ lowered COORDINATE x → poured q u ≡ pour (low_bytes 4 v) at t → poured q u ≡ pour (coordinate_bytes x) at t
coordinate_poured x v at q t u e f = f ∙ ap (λ (k : ℕ). pour (low_bytes 4 k) at t) e

pub header_poured : (tag size at a b : ℕ) (t u x : List ℕ) → poured a u ≡ pour (low_bytes 1 tag) at t → poured b x ≡ pour (low_bytes 2 size) a u → poured b x ≡ pour (low_bytes 1 tag ++ low_bytes 2 size) at t
header_poured tag size at a b t u x e f = pour_more (low_bytes 1 tag) (low_bytes 2 size) t u x at a b e f

-- ---- fields, whose header is a

module _ (at a : ℕ) (t u : List ℕ) where
  pub settings_poured : (bits b : ℕ) (x : List ℕ) → poured a u ≡ pour (1 ∷ low_bytes 2 1) at t → poured b x ≡ pour (low_bytes 1 bits) a u → poured b x ≡ pour (bytes_of (Settings bits)) at t
  settings_poured bits b x e f = pour_more (1 ∷ low_bytes 2 1) (low_bytes 1 bits) t u x at a b e f

  pub segment_poured : (p b : ℕ) (x : List ℕ) → poured a u ≡ pour (4 ∷ low_bytes 2 2) at t → poured b x ≡ pour (low_bytes 2 p) a u → poured b x ≡ pour (bytes_of (Segment p)) at t
  segment_poured p b x e f = pour_more (4 ∷ low_bytes 2 2) (low_bytes 2 p) t u x at a b e f

  pub join_poured : (p q b c : ℕ) (x y : List ℕ) → poured a u ≡ pour (5 ∷ low_bytes 2 4) at t → poured b x ≡ pour (low_bytes 2 p) a u → poured c y ≡ pour (low_bytes 2 q) b x → poured c y ≡ pour (bytes_of (Join p q)) at t
  join_poured p q b c x y e f g = pour_more (5 ∷ low_bytes 2 4 ++ low_bytes 2 p) (low_bytes 2 q) t x y at b c (pour_more (5 ∷ low_bytes 2 4) (low_bytes 2 p) t u x at a b e f) g

  pub record_poured : (flags owner first b c d : ℕ) (x y z : List ℕ) → poured a u ≡ pour (3 ∷ low_bytes 2 5) at t → poured b x ≡ pour (low_bytes 1 flags) a u → poured c y ≡ pour (low_bytes 2 owner) b x
      → poured d z ≡ pour (low_bytes 2 first) c y → poured d z ≡ pour (bytes_of (Record flags owner first)) at t
  record_poured flags owner first b c d x y z e f g h =
      pour_more ((3 ∷ low_bytes 2 5) ++ low_bytes 1 flags ++ low_bytes 2 owner) (low_bytes 2 first) t y z at c d
      (pour_more ((3 ∷ low_bytes 2 5) ++ low_bytes 1 flags) (low_bytes 2 owner) t x y at b c (pour_more (3 ∷ low_bytes 2 5) (low_bytes 1 flags) t u x at a b e f) g) h

  pub point_poured : (x y next prev i z b c d e f g : ℕ) (o₁ o₂ o₃ o₄ o₅ o₆ : List ℕ) → poured a u ≡ pour (2 ∷ low_bytes 2 18) at t → poured b o₁ ≡ pour (coordinate_bytes x) a u → poured c o₂ ≡ pour (coordinate_bytes y) b o₁
      → poured d o₃ ≡ pour (low_bytes 2 next) c o₂ → poured e o₄ ≡ pour (low_bytes 2 prev) d o₃ → poured f o₅ ≡ pour (low_bytes 2 i) e o₄ → poured g o₆ ≡ pour (low_bytes 4 z) f o₅ → poured g o₆ ≡ pour (bytes_of (Point x y next prev i z)) at t
  point_poured x y next prev i z b c d e f g o₁ o₂ o₃ o₄ o₅ o₆ h₁ h₂ h₃ h₄ h₅ h₆ h₇ =
      pour_more ((((2 ∷ low_bytes 2 18) ++ coordinate_bytes x) ++ coordinate_bytes y) ++ low_bytes 2 next ++ low_bytes 2 prev ++ low_bytes 2 i) (low_bytes 4 z) t o₅ o₆ at f g
      (pour_more ((((2 ∷ low_bytes 2 18) ++ coordinate_bytes x) ++ coordinate_bytes y) ++ low_bytes 2 next ++ low_bytes 2 prev) (low_bytes 2 i) t o₄ o₅ at e f
      (pour_more ((((2 ∷ low_bytes 2 18) ++ coordinate_bytes x) ++ coordinate_bytes y) ++ low_bytes 2 next) (low_bytes 2 prev) t o₃ o₄ at d e
      (pour_more (((2 ∷ low_bytes 2 18) ++ coordinate_bytes x) ++ coordinate_bytes y) (low_bytes 2 next) t o₂ o₃ at c d
      (pour_more ((2 ∷ low_bytes 2 18) ++ coordinate_bytes x) (coordinate_bytes y) t o₁ o₂ at b c
      (pour_more (2 ∷ low_bytes 2 18) (coordinate_bytes x) t u o₁ at a b h₁ h₂) h₃) h₄) h₅) h₆) h₇
