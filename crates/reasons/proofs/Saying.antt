-- The program's buffer has room for the text of every job.
use Prim.Native.Nat.{ℕ, ◌≤◌}
use mathlib.Core.Path.{◌≡◌, sym, subst}
use mathlib.Core.List.{List, ◌++◌}
use native.Mathlib.Omega.{arith}
use lib.ListN.{length, take, drop, replicate, length-append, length-replicate}
use lib.Seq.{length-take-le}
use Rattle.std.specs.Prelude.{Option, Some}
use Rattle.listing.specs.Told.{Told, told}
use Rattle.listing.specs.Needs.{Whole}
use Rattle.job_listing.specs.Cutlist.{listed_job}
use Rattle.job_reasons.specs.Room.{TEXT}
use Rattle.job_reasons.specs.Reasons.{reasons_of, tell_job_of}
use Rattle.job_reasons.proofs.Fits.{told_whole}

pub text_part : (a : Option ℕ) (m : ℕ) (text : List ℕ) → Whole a (length text) → a ≡ Some m → m ≡ length (take m text)
text_part a m text h e = sym (length-take-le m text (subst (λ (x : Option ℕ). Whole x (length text)) e h))

pub room : (bytes w t w' t' out' : List ℕ) (a : Option ℕ) → listed_job (told a out') w' t' ≡ tell_job_of bytes w t (replicate TEXT 0) → Whole a (length out')
room bytes w t w' t' out' a e =
    let text : List ℕ = reasons_of bytes w t in
    let rest : List ℕ = drop (length text) (replicate TEXT 0) in
    let l : length text ≤ length (text ++ rest) = omega (arith, length-append text rest) in
    subst (λ (x : Told). Whole x.answer (length x.out)) (sym (told_whole bytes w t w' t' (replicate TEXT 0) out' a (omega (arith, length-replicate {A = ℕ} TEXT 0)) e)) l
