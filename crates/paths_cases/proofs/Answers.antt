-- A work space that passes its tests may be written out, and what is written may be listed.
use Prim.Native.Nat.{ℕ, ◌≤◌}
use mathlib.Core.Path.{◌≡◌, refl, sym, ap, ◌∙◌}
use mathlib.Core.Bool.{Bool, true, false}
use mathlib.Core.List.{List}
use native.Mathlib.Omega.{arith}
use lib.Dec.{leb}
use lib.ListN.{length, take, drop, length-append, length-drop, length-take}
use borrow.Author.Tests.{leb-true}
use Rattle.std.specs.Prelude.{Result, Ok}
use Rattle.job.specs.declared.refusal.Refusal.{Refusal}
use Rattle.store.specs.Field.{BLOCK}
use Rattle.store.specs.Words.{view}
use Rattle.audit.specs.Tests.{tests_of}
use Rattle.audit.proofs.Agreeing.{passed_sound}
use Rattle.std.specs.Prelude.{Option, Some, None}
use Rattle.std.specs.Option.{unwrap_or}
use Rattle.job.specs.declared.refusal.Refusal.{Refusal}
use Rattle.paths.specs.declared.Written.{Written}
use Rattle.paths.specs.Wrote.{wrote, build_paths64}
use Rattle.store.specs.Good.{SoundWords}
use Rattle.listing.specs.Told.{Told, told, tell}
use Rattle.listing.specs.Needs.{Listable}
use Rattle.listing.proofs.Answers.{answer_listable}

pub ready : (w : List ℕ) (v : Result (Unit {0}) Refusal) → BLOCK ≤ length w → v ≡ tests_of w → v ≡ Ok tt → SoundWords w
ready w v l e f = record { long = l; sound = passed_sound w (sym e ∙ f) }

pub listable : (w : List ℕ) (v : Result (Unit {0}) Refusal) (r : Result Written Refusal) (p : Written) (t u : List ℕ) → v ≡ tests_of w → v ≡ (Ok tt) → r ≡ Ok p → wrote r u ≡ build_paths64 (view w) t → Listable p.closed p.«open» u
listable w v r p t u e f g h = answer_listable (view w) p.closed p.«open» t u (passed_sound w (sym e ∙ f)) (ap (λ (x : Result Written Refusal). wrote x u) (sym g) ∙ h)

-- the text ends within the slice
pub within : (text t u : List ℕ) (r : Option ℕ) (n : ℕ) → r ≡ Some n → told r u ≡ tell text t → n ≤ length u
unfolding tell
within text t u r n e f = go (leb (length text) (length t)) refl
  where
    go : (b : Bool) → leb (length text) (length t) ≡ b → n ≤ length u
    go true g =
        let h : length text ≤ length t = leb-true (length text) (length t) g in
        let a : Some n ≡ Some (length text) = sym e ∙ ap (λ (x : Told). x.answer) f ∙ rw g in
        let z : n ≡ length text = cc in
        omega (
          arith,
          ap (λ (x : Told). length x.out) f,
          length-append (take (length t) text) (drop (length text) t),
          length-take (length t) text,
          length-drop (length text) t,
        )
    go false g =
        let a : Some n ≡ None = sym e ∙ ap (λ (x : Told). x.answer) f ∙ rw g in
        let z : ◌≡◌ {A = ℕ} 0 1 = cc in
        absurd (omega arith)

-- so does nothing, where there is no text
pub within_or : (text t u : List ℕ) (r : Option ℕ) → told r u ≡ tell text t → unwrap_or r 0 ≤ length u
within_or text t u (Some n) f = within text t u (Some n) n refl f
within_or text t u None f = omega arith
