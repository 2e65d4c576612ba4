-- Signed numbers as the code holds them, and their text.
use Prim.Native.Nat.{ℕ, zero, suc, ◌^◌}
use mathlib.Core.Path.{◌≡◌, refl, sym, ap, ◌∙◌}
use mathlib.Core.Bool.{Bool, true, false, cond, not, false≢true, true≢false}
use mathlib.Core.List.{List, [], ◌∷◌, ◌++◌}
use native.Mathlib.Omega.{arith}
use lib.IntN.{ℤ, pos, negsuc, nat_abs}
use lib.Signed.{lt_z}
use borrow.Author.Tests.{ltb-true, ltb-false}
use mir.Syntax.{w64}
use mir.Val.{to_z, of_z}
use mir.Facts.{to_z-of_z}
use Rattle.exact.specs.Num.{Within}
use Rattle.exact.proofs.Size.{fits_size}
use Rattle.text.specs.Pour.{poured, pour}
use Rattle.text.specs.Text.{SPACE, MINUS, decimal, signed_text}
use Rattle.listing.specs.Words.{PIECE, HOLE, FLAT}
use Rattle.listing.specs.Lines.{word_of}
use Rattle.text.proofs.Pouring.{pour_more}

pub back : (z : ℤ) → Within (2 ^ 62) z → to_z w64 (of_z w64 z) ≡ z
back z h = to_z-of_z (fits_size w64 z (omega (arith, h.size)))

-- ---- the text

minus_text : (z : ℤ) → lt_z z (pos 0) ≡ true → signed_text z ≡ (MINUS ∷ []) ++ decimal (nat_abs z)
minus_text (pos n) e = absurd (omega (arith, ltb-true n 0 e))
minus_text (negsuc n) e = refl

plus_text : (z : ℤ) → lt_z z (pos 0) ≡ false → signed_text z ≡ decimal (nat_abs z)
plus_text (pos n) e = refl
plus_text (negsuc n) e = absurd (true≢false e)

module _ (z : ℤ) (h : Within (2 ^ 62) z) (n at : ℕ) (t : List ℕ) (d : n ≡ nat_abs (to_z w64 (of_z w64 z))) where
  e : n ≡ nat_abs z
  e = d ∙ ap nat_abs (back z h)

  pub minus_poured : (k r : ℕ) (u v : List ℕ) → lt_z (to_z w64 (of_z w64 z)) (pos 0) ≡ true → poured k u ≡ pour (45 ∷ []) at t → poured r v ≡ pour (decimal n) k u → poured r v ≡ pour (signed_text z) at t
  minus_poured k r u v d f g =
      pour_more (45 ∷ []) (decimal n) t u v at k r f g
      ∙ ap (λ (m : ℕ). pour ((45 ∷ []) ++ decimal m) at t) e
      ∙ ap (λ (x : List ℕ). pour x at t) (sym (minus_text z (rw (back z h) at d)))

  pub plus_poured : (r : ℕ) (v : List ℕ) → lt_z (to_z w64 (of_z w64 z)) (pos 0) ≡ false → poured r v ≡ pour (decimal n) at t → poured r v ≡ pour (signed_text z) at t
  plus_poured r v d g = g ∙ ap (λ (m : ℕ). pour (decimal m) at t) e ∙ ap (λ (x : List ℕ). pour x at t) (sym (plus_text z (rw (back z h) at d)))

-- ---- the word

negative_is : (rev : Bool) (z : ℤ) → lt_z z (pos 0) ≡ true → cond rev PIECE HOLE ≡ word_of rev z
negative_is rev (pos n) e = absurd (omega (arith, ltb-true n 0 e))
negative_is rev (negsuc n) e = refl

positive_is : (rev : Bool) (z : ℤ) → lt_z (pos 0) z ≡ true → cond (not rev) PIECE HOLE ≡ word_of rev z
positive_is rev (pos zero) e = absurd (omega (arith, ltb-true 0 0 e))
positive_is true (pos (suc n)) e = refl
positive_is false (pos (suc n)) e = refl
positive_is rev (negsuc n) e = absurd (false≢true e)

flat_is : (rev : Bool) (z : ℤ) → lt_z z (pos 0) ≡ false → lt_z (pos 0) z ≡ false → FLAT ≡ word_of rev z
flat_is rev (pos zero) e f = refl
flat_is rev (pos (suc n)) e f = absurd (omega (arith, ltb-false 0 (suc n) f))
flat_is rev (negsuc n) e f = absurd (true≢false e)

-- what `put_sense` puts
pub piece_poured : (piece : Bool) (at r : ℕ) (t v : List ℕ) → piece ≡ true → poured r v ≡ pour (PIECE ++ (SPACE ∷ [])) at t → poured r v ≡ pour (cond piece PIECE HOLE ++ (SPACE ∷ [])) at t
piece_poured piece at r t v e f = f ∙ ap (λ (x : Bool). pour (cond x PIECE HOLE ++ (SPACE ∷ [])) at t) (sym e)

pub hole_poured : (piece : Bool) (at r : ℕ) (t v : List ℕ) → piece ≡ false → poured r v ≡ pour (HOLE ++ (SPACE ∷ [])) at t → poured r v ≡ pour (cond piece PIECE HOLE ++ (SPACE ∷ [])) at t
hole_poured piece at r t v e f = f ∙ ap (λ (x : Bool). pour (cond x PIECE HOLE ++ (SPACE ∷ [])) at t) (sym e)

module _ (rev : Bool) (z : ℤ) (h : Within (2 ^ 62) z) (at r : ℕ) (t v : List ℕ) where
  word : (x : List ℕ) → x ≡ word_of rev z → poured r v ≡ pour (x ++ (SPACE ∷ [])) at t → poured r v ≡ pour (word_of rev z ++ (SPACE ∷ [])) at t
  word x e f = f ∙ ap (λ (y : List ℕ). pour (y ++ (SPACE ∷ [])) at t) e

  pub negative_poured : lt_z (to_z w64 (of_z w64 z)) (pos 0) ≡ true → poured r v ≡ pour (cond rev PIECE HOLE ++ (SPACE ∷ [])) at t → poured r v ≡ pour (word_of rev z ++ (SPACE ∷ [])) at t
  negative_poured e f = word (cond rev PIECE HOLE) (negative_is rev z (rw (back z h) at e)) f

  pub positive_poured : lt_z (pos 0) (to_z w64 (of_z w64 z)) ≡ true → poured r v ≡ pour (cond (not rev) PIECE HOLE ++ (SPACE ∷ [])) at t → poured r v ≡ pour (word_of rev z ++ (SPACE ∷ [])) at t
  positive_poured e f = word (cond (not rev) PIECE HOLE) (positive_is rev z (rw (back z h) at e)) f

  pub flat_poured : lt_z (to_z w64 (of_z w64 z)) (pos 0) ≡ false → lt_z (pos 0) (to_z w64 (of_z w64 z)) ≡ false → poured r v ≡ pour (FLAT ++ (SPACE ∷ [])) at t → poured r v ≡ pour (word_of rev z ++ (SPACE ∷ [])) at t
  flat_poured e g f = word FLAT (flat_is rev z (rw (back z h) at e) (rw (back z h) at g)) f
