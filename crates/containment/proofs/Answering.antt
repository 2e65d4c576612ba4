-- The answers of a finished job.
use Prim.Native.Nat.{ℕ, ◌≤◌, ◌<◌}
use mathlib.Core.Path.{◌≡◌, refl, sym, ap, ◌∙◌, subst}
use mathlib.Core.Bool.{true, false}
use mathlib.Core.List.{List}
use native.Mathlib.Omega.{arith}
use lib.Dec.{leb}
use lib.ListN.{length, replicate, length-replicate}
use borrow.Author.Tests.{le-leb, lt-leb}
use Rattle.job.specs.declared.refusal.Refusal.{Refusal}
use Rattle.job.specs.declared.refusal.Refusal.TheVariants.{SmallTray}
use Rattle.std.specs.Prelude.{Result, Ok, Err}
use Rattle.paths.specs.declared.Written.{Written}
use Rattle.paths.specs.Tray.{padded}
use Rattle.text.specs.Pour.{poured, pour}
use Rattle.listing.specs.Fields.{paths_in}
use Rattle.finishing.specs.InOneCall.{Finished, finished, refused, finish_of}
use Rattle.containment.specs.Answers.{pair_answers, pair_count}
use Rattle.containment.specs.Needs.{Fielded}
use Rattle.containment.specs.Contained.{contained, answered, after_finishing, contained_from, contained_of}
use Rattle.containment.proofs.Rows.{pairs_length, poured_padded}
use Rattle.containment.proofs.Finishing.{done_fielded}

module _ (p : Written) (need : ℕ) (w t a : List ℕ) (n : need ≡ pair_count p.closed) (z : a ≡ replicate (length a) 0) where
  pub answer_short : length a < need → (r : Result Written Refusal) (w' t' : List ℕ) → finished r w' t' ≡ refused SmallTray (length w) (length t)
      → contained r w' t' a ≡ answered p.closed p.«open» w t (pair_answers (paths_in t p.closed 0)) (length a)
  answer_short h r w' t' e =
      ap (λ (f : Finished). contained f.answer f.words f.tray a) e
      ∙ ap (λ (x : List ℕ). contained (Err SmallTray) (replicate (length w) 0) (replicate (length t) 0) x) z
      ∙ rw (lt-leb (length (pair_answers (paths_in t p.closed 0))) (length a) (omega (arith, n, pairs_length t p.closed)))

  pub answer_long : need ≤ length a → (q : ℕ) (a' : List ℕ) → poured q a' ≡ pour (pair_answers (paths_in t p.closed 0)) 0 a → contained (Ok p) w t a' ≡ answered p.closed p.«open» w t (pair_answers (paths_in t p.closed 0)) (length a)
  answer_long h q a' e =
      let l : length (pair_answers (paths_in t p.closed 0)) ≤ length a = omega (arith, n, pairs_length t p.closed) in
      ap (contained (Ok p) w t) (poured_padded (pair_answers (paths_in t p.closed 0)) a a' (length a) q z l e) ∙ rw (le-leb (length (pair_answers (paths_in t p.closed 0))) (length a) l)

pub zeros_again : (a : List ℕ) (k : ℕ) → a ≡ replicate k 0 → a ≡ replicate (length a) 0
zeros_again a k e = e ∙ ap (λ (m : ℕ). replicate m 0) (sym (ap length e ∙ length-replicate k 0))

module _ (bytes lent t w' t' a₀ a : List ℕ) (r : Result Written Refusal) (z : a ≡ replicate (length a₀) 0) (e : finished r w' t' ≡ finish_of bytes lent t) where
  by_answer : after_finishing r w' t' (length a₀) ≡ contained_of bytes lent t (length a₀)
  unfolding contained_of
  by_answer = ap (λ (f : Finished). contained_from f (length a₀)) e

  pub may_answer : (p : Written) → r ≡ Ok p → Fielded t' p.closed
  may_answer p h = done_fielded p.closed p.«open» w' t' t bytes lent (subst (λ (x : Result Written Refusal). finished x w' t' ≡ finish_of bytes lent t) h e)

  pub all_answered : (p : Written) (s : Result Written Refusal) (w'' t'' a'' : List ℕ) → r ≡ Ok p → contained s w'' t'' a'' ≡ answered p.closed p.«open» w' t' (pair_answers (paths_in t' p.closed 0)) (length a)
      → contained s w'' t'' a'' ≡ contained_of bytes lent t (length a₀)
  all_answered p s w'' t'' a'' h g =
      let l : length a ≡ length a₀ = ap length z ∙ length-replicate (length a₀) 0 in
      g
      ∙ ap (answered p.closed p.«open» w' t' (pair_answers (paths_in t' p.closed 0))) l
      ∙ ap (λ (x : Result Written Refusal). after_finishing x w' t' (length a₀)) (sym h)
      ∙ by_answer

  pub none_answered : (x : Refusal) → r ≡ Err x → contained (Err x) w' t' a ≡ contained_of bytes lent t (length a₀)
  none_answered x h = ap (contained (Err x) w' t') z ∙ ap (λ (y : Result Written Refusal). after_finishing y w' t' (length a₀)) (sym h) ∙ by_answer
