-- The points that a tray holds: read, and their text.
use Prim.Native.Nat.{ℕ, suc, ◌+◌, ◌-◌, ◌*◌, ◌≤◌, ◌<◌, ◌^◌}
use mathlib.Core.Path.{◌≡◌, sym, ap, ◌∙◌}
use mathlib.Core.Bool.{false}
use mathlib.Core.List.{List, [], ◌∷◌, ◌++◌}
use native.Mathlib.Omega.{arith}
use native.Mathlib.Nat.{mod-eq_of_lt}
use lib.Dec.{ltb}
use lib.IntN.{ℤ, negsuc, nat_abs}
use lib.ListN.{get_or}
use borrow.Author.Tests.{le-ltb, ltb-false}
use mir.Syntax.{w32, w64}
use mir.Val.{SFits, to_z, of_z}
use mir.ValLaws.{to_z_pos, to_z-neg}
use mir.Facts.{to_z-of_z}
use Rattle.exact.specs.Num.{Within}
use Rattle.exact.proofs.Size.{fits_size}
use Rattle.exact.proofs.Words.{cast_wide, wide_is}
use Rattle.numbers.specs.Bytes.{le}
use Rattle.numbers.specs.Written.{Number}
use Rattle.numbers.specs.Raised.{raised, signed, coordinate}
use Rattle.numbers.proofs.Widths.{below}
use Rattle.numbers.proofs.Raises.{off_means, raised_means}
use Rattle.geometry.specs.declared.Point.{Point}
use Rattle.text.specs.Pour.{poured, pour}
use Rattle.text.specs.Text.{decimal, signed_text}
use Rattle.listing.specs.Fields.{point_in}
use Rattle.listing.specs.Needs.{Held}
use Rattle.listing.specs.Lines.{place_text, depth_text, point_text}
use Rattle.text.proofs.Pouring.{pour_more}

-- ---- a point is read

module _ (t : List ℕ) (at x : ℕ) (bytes : (i : ℕ) → get_or t i 0 < 256) (h : Within (2 ^ 20) (signed (le 4 at t))) (e : x ≡ raised 1048576 (le 4 at t)) where
  pub raised_low : x ≤ 2097152
  raised_low =
      let v = le 4 at t in
      let l : v < 2 ^ 32 = below 4 at t bytes in
      let g : ltb (2 * 1048576) (raised 1048576 v) ≡ false = off_means 1048576 v (omega arith) l ∙ le-ltb 1048576 (nat_abs (signed v)) h.size in
      omega (arith, e, ltb-false (2 * 1048576) (raised 1048576 v) g)

  pub raised_is : (a : ℤ) → a ≡ coordinate 1048576 x → to_z w32 (of_z w32 a) ≡ signed (le 4 at t)
  raised_is a f =
      let v = le 4 at t in
      let d : a ≡ signed v = f ∙ ap (coordinate 1048576) e ∙ raised_means 1048576 v (omega arith) (below 4 at t bytes) (rw e at raised_low) in
      rw d (to_z-of_z (fits_size w32 (signed v) (omega (arith, h.size))))

pub point_made : (t : List ℕ) (at : ℕ) (a b : ℤ) (z : ℕ) → a ≡ signed (le 4 at t) → b ≡ signed (le 4 (at + 4) t) → Number 4 (at + 8) t z → ◌≡◌ {A = Point} (record { x = a; y = b; z = z }) (point_in t at)
unfolding point_in
point_made t at a b z e f g = rw (e, f, g.is)

pub x_small : (t : List ℕ) (at : ℕ) → Held t at → Within (2 ^ 20) (signed (le 4 at t))
unfolding point_in
x_small t at h = h.small.x

pub y_small : (t : List ℕ) (at : ℕ) → Held t at → Within (2 ^ 20) (signed (le 4 (at + 4) t))
unfolding point_in
y_small t at h = h.small.y

-- ---- its coordinates as numbers of 64 bits

module _ (z y : ℤ) (h : Within (2 ^ 20) z) (e : y ≡ z) where
  fits : SFits w32 y
  fits = rw e (fits_size w32 z (omega (arith, h.size)))

  pub wide_fits : SFits w64 (to_z w32 (of_z w32 y))
  wide_fits = cast_wide fits

  pub wide_value : to_z w64 (of_z w64 (to_z w32 (of_z w32 y))) ≡ z
  wide_value = wide_is fits ∙ e

  pub wide_asked : Within (2 ^ 62) (to_z w64 (of_z w64 (to_z w32 (of_z w32 y))))
  wide_asked = rw wide_value (record { size = omega (arith, h.size) })

-- a space, x, a comma, y
pub place_poured : (t : List ℕ) (from : ℕ) (p : Point) → Held t from → p ≡ point_in t from → (at a b c d : ℕ) (o₁ o₂ o₃ o₄ o₅ : List ℕ)
    → poured a o₂ ≡ pour (32 ∷ []) at o₁ → poured b o₃ ≡ pour (signed_text (to_z w64 (of_z w64 (to_z w32 (of_z w32 p.x))))) a o₂
    → poured c o₄ ≡ pour (44 ∷ []) b o₃ → poured d o₅ ≡ pour (signed_text (to_z w64 (of_z w64 (to_z w32 (of_z w32 p.y))))) c o₄
    → poured d o₅ ≡ pour (place_text (point_in t from)) at o₁
place_poured t from p h e at a b c d o₁ o₂ o₃ o₄ o₅ f g i j =
    let q = point_in t from in
    let x : poured b o₃ ≡ pour (signed_text q.x) a o₂ = g ∙ ap (λ (z : ℤ). pour (signed_text z) a o₂) (wide_value q.x p.x h.small.x (ap (λ (r : Point). r.x) e)) in
    let y : poured d o₅ ≡ pour (signed_text q.y) c o₄ = j ∙ ap (λ (z : ℤ). pour (signed_text z) c o₄) (wide_value q.y p.y h.small.y (ap (λ (r : Point). r.y) e)) in
    pour_more ((32 ∷ []) ++ signed_text q.x ++ (44 ∷ [])) (signed_text q.y) o₁ o₄ o₅ at c d
    (pour_more ((32 ∷ []) ++ signed_text q.x) (44 ∷ []) o₁ o₃ o₄ at b c (pour_more (32 ∷ []) (signed_text q.x) o₁ o₂ o₃ at a b f x) i)
    y

-- ---- z

module _ (z at r : ℕ) (o₁ o₂ : List ℕ) where
  pub shallow_poured : z < 2147483648 → poured r o₂ ≡ pour (decimal z) at o₁ → poured r o₂ ≡ pour (depth_text z) at o₁
  shallow_poured h e =
      let l : z < 4294967296 = omega arith in
      e ∙ ap (λ (y : ℤ). pour (signed_text y) at o₁) (sym (to_z_pos w32 z h)) ∙ ap (λ (v : ℕ). pour (signed_text (signed v)) at o₁) (sym (mod-eq_of_lt l))

  pub deep_poured : (m k : ℕ) (o : List ℕ) → 2147483648 ≤ z → m ≡ 4294967296 - z → z < 4294967296 → poured k o ≡ pour (45 ∷ []) at o₁ → poured r o₂ ≡ pour (decimal m) k o → poured r o₂ ≡ pour (depth_text z) at o₁
  deep_poured m k o h d l e f =
      let n : ℕ = 4294967295 - z in
      let a : z ≡ 4294967296 - suc n = omega arith in
      let b : to_z w32 z ≡ negsuc n = ap (to_z w32) a ∙ to_z-neg w32 n (omega arith) in
      let c : m ≡ suc n = omega arith in
      pour_more (45 ∷ []) (decimal (suc n)) o₁ o o₂ at k r e (f ∙ ap (λ (v : ℕ). pour (decimal v) k o) c)
      ∙ ap (λ (y : ℤ). pour (signed_text y) at o₁) (sym b) ∙ ap (λ (v : ℕ). pour (signed_text (signed v)) at o₁) (sym (mod-eq_of_lt l))

-- a point, from its place, a comma and its z
pub point_poured : (t : List ℕ) (from z at a b c : ℕ) (o₁ o₂ o₃ o₄ : List ℕ) → Number 4 (from + 8) t z
    → poured a o₂ ≡ pour (place_text (point_in t from)) at o₁ → poured b o₃ ≡ pour (44 ∷ []) a o₂ → poured c o₄ ≡ pour (depth_text z) b o₃ → poured c o₄ ≡ pour (point_text (point_in t from)) at o₁
unfolding point_in
point_poured t from z at a b c o₁ o₂ o₃ o₄ n e f g =
    let q = point_in t from in
    pour_more (place_text q ++ (44 ∷ [])) (depth_text (le 4 (from + 8) t)) o₁ o₃ o₄ at b c (pour_more (place_text q) (44 ∷ []) o₁ o₂ o₃ at a b e f)
    (g ∙ ap (λ (v : ℕ). pour (depth_text v) b o₃) n.is)
