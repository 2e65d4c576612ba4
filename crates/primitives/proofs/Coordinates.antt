-- Coordinates and their words: a word within the limit stands for a coordinate within it, and back.
use Prim.Native.Nat.{ℕ, suc, ◌-◌, ◌*◌, ◌≤◌, ◌<◌}
use mathlib.Core.Path.{◌≡◌, refl, ap, ◌∙◌, sym}
use mathlib.Core.List.{List}
use native.Mathlib.Omega.{arith}
use native.Mathlib.Decide.{dec_lt}
use lib.IntN.{ℤ, pos, negsuc, nat_abs, neg_ℤ, ◌+ℤ◌, ◌-ℤ◌, +ℤ_assoc, +ℤ_idr}
use lib.Dec.{T}
use lib.Signed.{non_neg}
use mir.Syntax.{w32, w64}
use mir.Val.{Fits, SFits, to_z, of_z}
use mir.ValLaws.{to_z_pos}
use mir.Facts.{to_z-of_z}
use Rattle.exact.specs.Num.{Within}
use Rattle.exact.proofs.Size.{fits_size}
use Rattle.numbers.specs.Raised.{coordinate}
use Rattle.numbers.proofs.Raises.{at_least, less}
use Rattle.job.specs.Limits as limit
use Rattle.geometry.specs.declared.Point.{Point}
use Rattle.geometry.specs.Table.{InTable}
use Rattle.store.specs.Field.{pt, X, Y, Z}
use Rattle.store.specs.Words.{Store, cell, view}
use Rattle.store.specs.Value.{point_at, point_of, word_of}

lowered_size : (v : ℕ) → v ≤ 2 * limit.COORDINATE → nat_abs (coordinate limit.COORDINATE v) ≤ limit.COORDINATE
lowered_size v h = go (dec_lt v limit.COORDINATE)
  where
    go : Dec (v < limit.COORDINATE) → nat_abs (coordinate limit.COORDINATE v) ≤ limit.COORDINATE
    go (yes l) = omega (arith, ap nat_abs (less v limit.COORDINATE l))
    go (no l) = let g : limit.COORDINATE ≤ v = omega arith in omega (arith, ap nat_abs (at_least v limit.COORDINATE g))

pub lowered_in : (v : ℕ) → v ≤ 2 * limit.COORDINATE → Within limit.COORDINATE (coordinate limit.COORDINATE v)
lowered_in v h = record { size = lowered_size v h }

pub lowered_fits : (v : ℕ) → v ≤ 2 * limit.COORDINATE → SFits w32 (coordinate limit.COORDINATE v)
lowered_fits v h = fits_size w32 (coordinate limit.COORDINATE v) (omega (arith, lowered_size v h))

-- as the code computes it
pub lower_fits : (v : ℕ) → v ≤ 2 * limit.COORDINATE → SFits w32 (to_z w32 v -ℤ pos 1048576)
lower_fits v h = rw (to_z_pos w32 v (omega arith)) (lowered_fits v h)

pub lower_is : (v : ℕ) → v ≤ 2 * limit.COORDINATE → to_z w32 (of_z w32 (to_z w32 v -ℤ pos 1048576)) ≡ coordinate limit.COORDINATE v
lower_is v h = to_z-of_z (lower_fits v h) ∙ ap (λ (z : ℤ). z -ℤ pos 1048576) (to_z_pos w32 v (omega arith))

-- a point whose words are within the limit is on the table
pub in_table : (s : Store) (k : ℕ) → s (pt X) k ≤ 2 * limit.COORDINATE → s (pt Y) k ≤ 2 * limit.COORDINATE → InTable (point_at s k)
in_table s k hx hy = record { x = lowered_in (s (pt X) k) hx; y = lowered_in (s (pt Y) k) hy }

pub point_is : (w : List ℕ) (k vx vy z : ℕ) (x y : ℤ) → view w (pt X) k ≤ 2 * limit.COORDINATE → view w (pt Y) k ≤ 2 * limit.COORDINATE
    → vx ≡ cell (pt X) w k → vy ≡ cell (pt Y) w k → x ≡ coordinate limit.COORDINATE vx → y ≡ coordinate limit.COORDINATE vy → z ≡ cell (pt Z) w k
    → ◌≡◌ {A = Point} (record { x = to_z w32 (of_z w32 x); y = to_z w32 (of_z w32 y); z = z }) (point_of w k)
point_is w k vx vy z x y hx hy ex ey dx dy ez =
    rw (dx, dy, ex, ey, ez, to_z-of_z (lowered_fits (cell (pt X) w k) hx), to_z-of_z (lowered_fits (cell (pt Y) w k) hy))

-- the word of a coordinate, and that it stands for it
raised_sum : (z : ℤ) → Within limit.COORDINATE z → (z +ℤ pos limit.COORDINATE ≡ pos (word_of z)) × (word_of z ≤ 2 * limit.COORDINATE)
unfolding word_of
raised_sum (pos n) h = (refl, omega (arith, h.size))
raised_sum (negsuc n) h =
    let e : pos limit.COORDINATE -ℤ pos (suc n) ≡ pos (limit.COORDINATE - suc n) = at_least limit.COORDINATE (suc n) h.size in
    (e ∙ sym (ap (λ (y : ℤ). pos (nat_abs y)) e), omega (arith, ap nat_abs e))

pub raise_low : (z : ℤ) → Within limit.COORDINATE z → word_of z ≤ 2 * limit.COORDINATE
raise_low z h = (raised_sum z h).1

pub raise_is : (z : ℤ) → Within limit.COORDINATE z → z +ℤ pos limit.COORDINATE ≡ pos (word_of z)
raise_is z h = (raised_sum z h).0

pub raise_fits : (z : ℤ) → Within limit.COORDINATE z → SFits w32 (z +ℤ pos limit.COORDINATE)
raise_fits z h = rw (raise_is z h) (fits_size w32 (pos (word_of z)) (omega (arith, raise_low z h)))

-- as the code computes it
module _ (z : ℤ) (h : Within limit.COORDINATE z) where
  pub fits : SFits w32 z
  fits = fits_size w32 z (omega (arith, h.size))

  pub raise_add : SFits w32 (to_z w32 (of_z w32 z) +ℤ pos 1048576)
  raise_add = rw (to_z-of_z fits) (raise_fits z h)

  raise_code : to_z w32 (of_z w32 (to_z w32 (of_z w32 z) +ℤ pos 1048576)) ≡ pos (word_of z)
  raise_code = to_z-of_z raise_add ∙ ap (λ (y : ℤ). y +ℤ pos 1048576) (to_z-of_z fits) ∙ raise_is z h

  pub raise_cast : T (non_neg (to_z w32 (of_z w32 (to_z w32 (of_z w32 z) +ℤ pos 1048576)))) × Fits w64 (nat_abs (to_z w32 (of_z w32 (to_z w32 (of_z w32 z) +ℤ pos 1048576))))
  raise_cast = rw raise_code (tt, record { fits = omega (arith, raise_low z h) })

  pub raise_word : (nat_abs (to_z w32 (of_z w32 (to_z w32 (of_z w32 z) +ℤ pos 1048576))) ≡ word_of z) × (nat_abs (to_z w32 (of_z w32 (to_z w32 (of_z w32 z) +ℤ pos 1048576))) < 4294967296)
  raise_word = rw raise_code (refl, omega (arith, raise_low z h))

-- the word that is stored stands for the coordinate
pub raised_back : (z : ℤ) → Within limit.COORDINATE z → coordinate limit.COORDINATE (word_of z) ≡ z
raised_back z h = ap (λ (y : ℤ). y -ℤ pos limit.COORDINATE) (sym (raise_is z h)) ∙ solve_back z
  where
    solve_back : (y : ℤ) → (y +ℤ pos limit.COORDINATE) -ℤ pos limit.COORDINATE ≡ y
    solve_back y = +ℤ_assoc y (pos limit.COORDINATE) (neg_ℤ (pos limit.COORDINATE)) ∙ +ℤ_idr y
