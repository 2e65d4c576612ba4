-- What the needs of the writers of lines come to.
use Prim.Native.Nat.{ℕ, suc, ◌+◌, ◌≤◌, ◌<◌}
use mathlib.Core.Path.{◌≡◌, sym, ap, ◌∙◌}
use mathlib.Core.Bool.{Bool, true, false}
use mathlib.Core.List.{List, [], ◌∷◌, ◌++◌}
use native.Mathlib.Omega.{arith}
use lib.ListN.{length}
use Rattle.store.specs.Words.{Store}
use Rattle.store.specs.Sound.{recs}
use Rattle.telling.specs.declared.Reason.{Reason}
use Rattle.telling.specs.Telling.{reason_at}
use Rattle.std.specs.Prelude.{Some, None}
use Rattle.text.specs.Pour.{poured, pour}
use Rattle.text.specs.Text.{NEWLINE, decimal}
use Rattle.listing.specs.Told.{told, tell}
use Rattle.text.proofs.Pouring.{pour_none, pour_more, pour_length}
use Rattle.listing.proofs.Telling.{told_all, has_room, no_room}
use Rattle.job_reasons.specs.Words.{RECORD, COLON, CLOSED_OUTLINE, OPEN_OUTLINE}
use Rattle.job_reasons.specs.Lines.{outline_text, why_text, line_of, lines_below, reasons_text}
use Rattle.job_reasons.specs.Needs.{Going}

-- ---- a line

module _ (at r : ℕ) (t u : List ℕ) where
  pub open_told : (o : Bool) (place : ℕ) → o ≡ true → poured r u ≡ pour (OPEN_OUTLINE ++ decimal place) at t → poured r u ≡ pour (outline_text o place) at t
  open_told o place e f = f ∙ ap (λ (b : Bool). pour (outline_text b place) at t) (sym e)

  pub closed_told : (o : Bool) (place : ℕ) → o ≡ false → poured r u ≡ pour (CLOSED_OUTLINE ++ decimal place) at t → poured r u ≡ pour (outline_text o place) at t
  closed_told o place e f = f ∙ ap (λ (b : Bool). pour (outline_text b place) at t) (sym e)

  -- by the reason's kind
  pub why_told : (x y : Reason) → x ≡ y → poured r u ≡ pour (why_text y) at t → poured r u ≡ pour (why_text x) at t
  why_told x y e f = f ∙ ap (λ (z : Reason). pour (why_text z) at t) (sym e)

pub line_told : (i : ℕ) (x : Reason) (at a b c d : ℕ) (o₁ o₂ o₃ o₄ o₅ : List ℕ) → poured a o₂ ≡ pour (RECORD ++ decimal i) at o₁ → poured b o₃ ≡ pour COLON a o₂ → poured c o₄ ≡ pour (why_text x) b o₃
    → poured d o₅ ≡ pour (NEWLINE ∷ []) c o₄ → poured d o₅ ≡ pour (line_of i x) at o₁
line_told i x at a b c d o₁ o₂ o₃ o₄ o₅ e f g h =
    pour_more (RECORD ++ decimal i ++ COLON ++ why_text x) (NEWLINE ∷ []) o₁ o₄ o₅ at c d
    (pour_more (RECORD ++ decimal i ++ COLON) (why_text x) o₁ o₃ o₄ at b c (pour_more (RECORD ++ decimal i) COLON o₁ o₂ o₃ at a b e f) g)
    h

-- ---- line after line

pub going_begins : (s : Store) (out : List ℕ) → Going s out out 0 0
going_begins s out = record { is = pour_none out 0; within = omega arith }

module _ (s : Store) (out₀ out : List ℕ) (k i : ℕ) (g : Going s out₀ out k i) where
  pub going_length : length out ≡ length out₀
  going_length = pour_length (lines_below s i) out₀ out 0 k g.is

  pub going_on : (n k' : ℕ) (out' : List ℕ) → n ≡ recs s → i < n → poured k' out' ≡ pour (line_of i (reason_at s i)) k out → Going s out₀ out' k' (i + 1)
  going_on n k' out' e l f =
      let z : suc i ≡ i + 1 = omega arith in
      record {
        is = pour_more (lines_below s i) (line_of i (reason_at s i)) out₀ out out' 0 k k' g.is f ∙ ap (λ (m : ℕ). pour (lines_below s m) 0 out₀) z;
        within = omega arith;
      }

  pub going_ends : (n : ℕ) → n ≡ recs s → n ≤ i → poured k out ≡ pour (reasons_text s) 0 out₀
  unfolding reasons_text
  going_ends n e l = let z : i ≡ recs s = omega (arith, g.within) in g.is ∙ ap (λ (m : ℕ). pour (lines_below s m) 0 out₀) z

-- ---- at the end

module _ (text t u : List ℕ) (k : ℕ) (e : poured k u ≡ pour text 0 t) where
  pub with_room : k ≤ length u → told (Some k) u ≡ tell text t
  with_room h = told_all text t u k (Some k) e (has_room k u h)

  pub without_room : length u < k → told None u ≡ tell text t
  without_room h = told_all text t u k None e (no_room k u h)
