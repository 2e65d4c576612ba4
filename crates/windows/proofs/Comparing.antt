-- A side of a window against a word: the word stands for its number less the raise, for any word and any side.
use Prim.Native.Nat.{ℕ}
use mathlib.Core.Path.{◌≡◌, refl, sym, ap, ◌∙◌, subst}
use mathlib.Core.Bool.{Bool, true, false, ◌&&◌, false≢true}
use native.Mathlib.Omega.{arith}
use lib.Dec.{T, leb}
use lib.IntN.{ℤ, pos, negsuc, nat_abs, ◌+ℤ◌}
use lib.Signed.{lt_z, le_z, non_neg}
use mir.Syntax.{w32, w64}
use mir.Val.{Fits, SFits}
use mir.Facts.{to_z-of_z}
use borrow.Author.Tests.{le-ltb}
use Rattle.exact.proofs.Size.{fits_size}
use Rattle.exact.proofs.Parts.{parts_add, parts_sub, le_z_parts, parts_le_z}
use Rattle.exact.proofs.Words.{i32, i64, add_wide}
use Rattle.numbers.specs.Raised.{coordinate}
use Rattle.job.specs.Limits as limit
use Rattle.geometry.specs.declared.Rect.{Rect}
use Rattle.store.specs.declared.boxed.Sides.{Sides}
use Rattle.store.specs.Boxes.{rect_of}
use Rattle.windows.specs.Window.{overlap, box_meets}

abbrev co : ℕ → ℤ
co v = coordinate limit.COORDINATE v

both_ways : (b c : Bool) → (T b → T c) → (T c → T b) → b ≡ c
both_ways true true f g = refl
both_ways true false f g = absurd (f tt)
both_ways false true f g = absurd (g tt)
both_ways false false f g = refl

module _ (v : ℕ) (z : ℤ) where
  abbrev up : ℤ
  up = z +ℤ pos limit.COORDINATE

  low_shift : le_z (co v) z ≡ le_z (pos v) up
  low_shift =
      both_ways (le_z (co v) z) (le_z (pos v) up)
      (λ t. parts_le_z (pos v) up (record { parts = omega (arith, (le_z_parts (co v) z t).parts, parts_sub (pos v) (pos limit.COORDINATE), parts_add z (pos limit.COORDINATE)) }))
      (λ t. parts_le_z (co v) z (record { parts = omega (arith, (le_z_parts (pos v) up t).parts, parts_sub (pos v) (pos limit.COORDINATE), parts_add z (pos limit.COORDINATE)) }))

  high_shift : le_z z (co v) ≡ le_z up (pos v)
  high_shift =
      both_ways (le_z z (co v)) (le_z up (pos v))
      (λ t. parts_le_z up (pos v) (record { parts = omega (arith, (le_z_parts z (co v) t).parts, parts_sub (pos v) (pos limit.COORDINATE), parts_add z (pos limit.COORDINATE)) }))
      (λ t. parts_le_z z (co v) (record { parts = omega (arith, (le_z_parts up (pos v) t).parts, parts_sub (pos v) (pos limit.COORDINATE), parts_add z (pos limit.COORDINATE)) }))

-- ---- as the code raises it

pub raise_wide : {z : ℤ} → SFits w32 z → SFits w64 (z +ℤ pos 1048576)
raise_wide h = add_wide h (fits_size w32 (pos 1048576) (omega arith))

-- r: the answer of `raised`
module _ {z r : ℤ} (h : SFits w32 z) (e : r ≡ i32 z +ℤ pos limit.COORDINATE) where
  is : r ≡ z +ℤ pos limit.COORDINATE
  is = e ∙ ap (λ (x : ℤ). x +ℤ pos limit.COORDINATE) (to_z-of_z h)

  back : i64 r ≡ z +ℤ pos limit.COORDINATE
  back = to_z-of_z (subst (SFits w64) (sym is) (raise_wide h)) ∙ is

  pub cast_sign : lt_z (i64 r) (pos 0) ≡ false → T (non_neg (i64 r))
  cast_sign t = go (i64 r) t
    where
      go : (x : ℤ) → lt_z x (pos 0) ≡ false → T (non_neg x)
      go (pos n) t = tt
      go (negsuc n) t = absurd (let y : ◌≡◌ {A = ℕ} 0 1 = cc in omega arith)

  pub cast_size : lt_z (i64 r) (pos 0) ≡ false → Fits w64 (nat_abs (i64 r))
  cast_size t = go (i64 r) (subst (SFits w64) (sym back) (raise_wide h)) t
    where
      go : (x : ℤ) → SFits w64 x → lt_z x (pos 0) ≡ false → Fits w64 (nat_abs x)
      go (pos n) s t = record { fits = omega (arith, s.sfits) }
      go (negsuc n) s t = absurd (let y : ◌≡◌ {A = ℕ} 0 1 = cc in omega arith)

  module _ (v : ℕ) where
    pub most_no : lt_z (i64 r) (pos 0) ≡ true → false ≡ le_z (co v) z
    most_no t = go (i64 r) t ∙ sym (low_shift v z ∙ ap (le_z (pos v)) (sym back))
      where
        go : (x : ℤ) → lt_z x (pos 0) ≡ true → false ≡ le_z (pos v) x
        go (pos n) t = absurd (false≢true (sym (le-ltb n 0 (omega arith)) ∙ t))
        go (negsuc n) t = refl

    pub most_is : lt_z (i64 r) (pos 0) ≡ false → leb v (nat_abs (i64 r)) ≡ le_z (co v) z
    most_is t = go (i64 r) t ∙ sym (low_shift v z ∙ ap (le_z (pos v)) (sym back))
      where
        go : (x : ℤ) → lt_z x (pos 0) ≡ false → leb v (nat_abs x) ≡ le_z (pos v) x
        go (pos n) t = refl
        go (negsuc n) t = absurd (let y : ◌≡◌ {A = ℕ} 0 1 = cc in omega arith)

    pub least_yes : lt_z (i64 r) (pos 0) ≡ true → true ≡ le_z z (co v)
    least_yes t = go (i64 r) t ∙ sym (high_shift v z ∙ ap (λ (x : ℤ). le_z x (pos v)) (sym back))
      where
        go : (x : ℤ) → lt_z x (pos 0) ≡ true → true ≡ le_z x (pos v)
        go (pos n) t = absurd (false≢true (sym (le-ltb n 0 (omega arith)) ∙ t))
        go (negsuc n) t = refl

    pub least_is : lt_z (i64 r) (pos 0) ≡ false → leb (nat_abs (i64 r)) v ≡ le_z z (co v)
    least_is t = go (i64 r) t ∙ sym (high_shift v z ∙ ap (λ (x : ℤ). le_z x (pos v)) (sym back))
      where
        go : (x : ℤ) → lt_z x (pos 0) ≡ false → leb (nat_abs x) v ≡ le_z x (pos v)
        go (pos n) t = refl
        go (negsuc n) t = absurd (let y : ◌≡◌ {A = ℕ} 0 1 = cc in omega arith)

-- ---- one axis, and both

pub overlap_is : {c d : ℤ} → SFits w32 c → SFits w32 d → (a b : ℕ) (x y : Bool) → x ≡ le_z (co a) (i32 d) → y ≡ le_z (i32 c) (co b)
    → (le_z (i32 c) (i32 d) && (x && y)) ≡ overlap (co a) (co b) c d
overlap_is h k a b x y e f = rw (e, f, to_z-of_z h, to_z-of_z k)

pub meets_is : (b : Sides) (v : Rect) → SFits w32 v.left → SFits w32 v.right → SFits w32 v.top → SFits w32 v.bottom → (x y : Bool)
    → x ≡ overlap (co b.left) (co b.right) (i32 v.left) (i32 v.right) → y ≡ overlap (co b.top) (co b.bottom) (i32 v.top) (i32 v.bottom) → (x && y) ≡ box_meets (rect_of b) v
unfolding box_meets
meets_is b v hl hr ht hb x y g k = rw (g, k, to_z-of_z hl, to_z-of_z hr, to_z-of_z ht, to_z-of_z hb)
