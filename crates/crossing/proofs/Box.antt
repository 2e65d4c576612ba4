-- The crossing point lies in the first edge's box: a fraction of a difference, rounded, stays between the ends, and so does what is left of it.
use Rattle.std.proofs.Common.{◌≡◌, ◌^◌, ◌≤◌, Bool, true, false, cond, not, T, ℤ, pos, ◌+ℤ◌, ◌-ℤ◌, nat_abs, ap, ◌∙◌, inl, inr, zero-le, arith, to_z-of_z, w32, w64, SFits}
use lib.IntN.{+ℤ_idr}
use lib.Signed.{le_z, ≤ℤ_refl}
use lib.Ieee.{Float, binary64, fin, add, mul, le, lt, to_signed}
use Rattle.exact.specs.Num.{Within, Whole}
use Rattle.exact.proofs.Size.{size_sub, fits_size}
use Rattle.exact.proofs.Words.{i32, i64, back_32}
use Rattle.exact.proofs.Parts.{◌≤ᶻ◌, parts_add, parts_sub, parts_inj, parts_size, one_part, le_z_parts, nle_z_parts, parts_le_z}
use Rattle.exact.proofs.Floats.{of_whole}
use Rattle.exact.proofs.Bounds.{In, in_mul, in_add, in_cut, in_range}
use Rattle.crossing.specs.Crossing.{float}
use Rattle.crossing.specs.Within.{Between}
use Rattle.crossing.specs.Floats.{Reach, stepped_f}

abbrev lower : ℤ → ℤ → ℤ
lower a b = cond (le_z a b) a b

abbrev upper : ℤ → ℤ → ℤ
upper a b = cond (le_z a b) b a

there : (a b : ℤ) → a +ℤ (b -ℤ a) ≡ b
there a b = parts_inj (a +ℤ (b -ℤ a)) b (omega (arith, parts_add a (b -ℤ a), parts_sub b a))

-- the float before truncation
abbrev float_at : ℤ → Float → Float → Float
float_at a d t = add binary64 (float a) (mul binary64 t d)

in_float : {a : ℤ} {d t : Float} (r : Reach a d t) → In (float_at a d t) (lower a r.to) (upper a r.to)
in_float {a} {d} {t} r = go (le_z a r.to) (le_z_parts a r.to) (nle_z_parts a r.to)
  where
    go : (u : Bool) → (T u → a ≤ᶻ r.to) → (T (not u) → r.to ≤ᶻ a) → In (float_at a d t) (cond u a r.to) (cond u r.to a)
    go true p q =
        let i = (p tt).parts in
        let s = r.from.size in
        let e = r.end.size in
        let k = size_sub r.to a in
        let w : Whole (float a) a = of_whole binary64 (omega arith) in
        let y : In (mul binary64 t d) (pos 0) (r.to -ℤ a) = in_mul r.part r.step (record { parts = omega arith }) (record { parts = omega (arith, parts_sub r.to a) }) (record { parts = omega (arith, parts_sub r.to a) }) (record { parts = omega arith }) zero-le (omega arith) in
        let x : In (float_at a d t) (a +ℤ pos 0) (a +ℤ (r.to -ℤ a)) = in_add w y (rw +ℤ_idr (omega arith)) (rw there (omega arith)) in
        rw (+ℤ_idr, there) at x
    go false p q =
        let i = (q tt).parts in
        let s = r.from.size in
        let e = r.end.size in
        let k = size_sub r.to a in
        let w : Whole (float a) a = of_whole binary64 (omega arith) in
        let y : In (mul binary64 t d) (r.to -ℤ a) (pos 0) = in_mul r.part r.step (record { parts = omega (arith, parts_sub r.to a) }) (record { parts = omega arith }) (record { parts = omega arith }) (record { parts = omega (arith, parts_sub r.to a) }) (omega arith) zero-le in
        let x : In (float_at a d t) (a +ℤ (r.to -ℤ a)) (a +ℤ pos 0) = in_add w y (rw there (omega arith)) (rw +ℤ_idr (omega arith)) in
        rw (+ℤ_idr, there) at x

ends_small : (a b : ℤ) → Within (2 ^ 20) a → Within (2 ^ 20) b → (nat_abs (lower a b) ≤ 2 ^ 20) × (nat_abs (upper a b) ≤ 2 ^ 20)
ends_small a b h k = go (le_z a b)
  where
    go : (u : Bool) → (nat_abs (cond u a b) ≤ 2 ^ 20) × (nat_abs (cond u b a) ≤ 2 ^ 20)
    go true = (h.size, k.size)
    go false = (k.size, h.size)

-- what lies between two coordinates is within their limit
pub between_within : {a b r : ℤ} → Within (2 ^ 20) a → Within (2 ^ 20) b → Between a b r → Within (2 ^ 20) r
between_within {a} {b} {r} h k e = record { size = go }
  where
    go : nat_abs r ≤ 2 ^ 20
    go =
        let s = ends_small a b h k in
        let l = (le_z_parts (lower a b) r e.low).parts in
        let u = (le_z_parts r (upper a b) e.high).parts in
        let i = parts_size (lower a b) in
        let j = parts_size (upper a b) in
        let m = parts_size r in
        elim (one_part r) [ inl z ↦ omega arith | inr z ↦ omega arith ]

module _ {a : ℤ} {d t : Float} (r : Reach a d t) where
  pub between : Between a r.to (stepped_f a d t)
  unfolding stepped_f
  between =
      let s = ends_small a r.to r.from r.end in
      let c = in_cut (in_float r) (omega arith) (omega arith) in
      record { low = parts_le_z _ _ c.0; high = parts_le_z _ _ c.1 }

  pub stepped_within : Within (2 ^ 20) (stepped_f a d t)
  stepped_within = between_within r.from r.end between

  -- ---- what `stepped` needs
  back : i32 a ≡ a
  back = back_32 r.from tt

  pub stepped_range : T (le (fin true 1 (pos 63)) (float_at (i32 a) d t)) × T (lt (float_at (i32 a) d t) (fin false 1 (pos 63)))
  stepped_range = let s = ends_small a r.to r.from r.end in rw back (in_range (in_float r) (omega arith) (omega arith))

  module _ {z : ℤ} (e : z ≡ to_signed 63 (float_at (i32 a) d t)) where
    is_stepped : z ≡ stepped_f a d t
    unfolding stepped_f
    is_stepped = e ∙ ap (λ (b : ℤ). to_signed 63 (float_at b d t)) back

    in32 : SFits w32 (stepped_f a d t)
    in32 = let s = stepped_within.size in fits_size w32 (stepped_f a d t) (omega arith)

    back64 : i64 z ≡ stepped_f a d t
    back64 = let s = stepped_within.size in rw is_stepped (to_z-of_z (fits_size w64 (stepped_f a d t) (omega arith)))

    pub stepped_cast : SFits w32 (i64 z)
    stepped_cast = rw back64 in32

    pub stepped_is : i32 (i64 z) ≡ stepped_f a d t
    stepped_is = rw back64 (to_z-of_z in32)

-- ---- the ends are in the box
le_refl_Z : (a : ℤ) → T (le_z a a)
le_refl_Z a = (≤ℤ_refl a).le

module _ (a b : ℤ) where
  go_start : (u : Bool) → (T (not u) → b ≤ᶻ a) → (T u → a ≤ᶻ b) → T (le_z (cond u a b) a) × T (le_z a (cond u b a))
  go_start true p q = (le_refl_Z a, parts_le_z a b (q tt))
  go_start false p q = (parts_le_z b a (p tt), le_refl_Z a)

  go_end : (u : Bool) → (T (not u) → b ≤ᶻ a) → (T u → a ≤ᶻ b) → T (le_z (cond u a b) b) × T (le_z b (cond u b a))
  go_end true p q = (parts_le_z a b (q tt), le_refl_Z b)
  go_end false p q = (le_refl_Z b, parts_le_z b a (p tt))

  pub stands_at_start : Between a b a
  stands_at_start = let k = go_start (le_z a b) (nle_z_parts a b) (le_z_parts a b) in record { low = k.0; high = k.1 }

  pub at_end : Between a b b
  at_end = let k = go_end (le_z a b) (nle_z_parts a b) (le_z_parts a b) in record { low = k.0; high = k.1 }
