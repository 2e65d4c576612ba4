-- What writing out answers can be listed.
use Prim.Native.Nat.{ℕ}
use mathlib.Core.Path.{◌≡◌, refl, sym, ap, ◌∙◌}
use mathlib.Core.Bool.{Bool, true, false, cond}
use mathlib.Core.List.{List}
use native.Mathlib.Omega.{arith}
use Rattle.std.specs.Prelude.{Result, Ok, Err}
use Rattle.job.specs.declared.refusal.Refusal.{Refusal}
use Rattle.job.specs.declared.refusal.Refusal.TheVariants.{OutOfTurn}
use Rattle.store.specs.Words.{view}
use Rattle.handed.specs.Handed.{handed_of}
use Rattle.handed.proofs.Handing.{handed_sound}
use Rattle.paths.specs.Wrote.{ok_paths}
use Rattle.paths.specs.declared.Written.{Written}
use Rattle.paths.specs.Wrote.{Wrote, wrote, build_paths64}
use Rattle.steps.specs.Live.{any_live}
use Rattle.finishing.specs.Write.{write_by, write_of}
use Rattle.finishing.proofs.Entering.{handed_write}
use Rattle.listing.specs.Needs.{Listable}
use Rattle.listing.proofs.Answers.{answer_listable}

never : {A : Type 0} (c o : ℕ) (x : Refusal) (t u : List ℕ) → wrote (ok_paths c o) u ≡ wrote (Err x) t → A
never c o x t u e =
    let a : ok_paths c o ≡ Err x = ap (λ (z : Wrote). z.answer) e in
    let z : ◌≡◌ {A = ℕ} 0 1 = cc in
    absurd (omega arith)

-- what writing out leaves can be listed
pub listable : (w t u : List ℕ) (r : Result Written Refusal) (p : Written) → r ≡ Ok p → wrote r u ≡ write_of w t → Listable p.closed p.«open» u
listable w t u r p e f = go (handed_of w) refl (ap (λ (x : Result Written Refusal). wrote x u) (sym e) ∙ f ∙ handed_write w t (handed_of w) refl)
  where
    go : (v : Result (Unit {0}) Refusal) → handed_of w ≡ v → wrote (Ok p) u ≡ write_by v w t → Listable p.closed p.«open» u
    go (Err x) g h = never p.closed p.«open» x t u h
    go (Ok _) g h = by (any_live (view w)) h
      where
        by : (b : Bool) → wrote (Ok p) u ≡ cond b (wrote (Err OutOfTurn) t) (build_paths64 (view w) t) → Listable p.closed p.«open» u
        by true k = never p.closed p.«open» OutOfTurn t u k
        by false k = answer_listable (view w) p.closed p.«open» t u (handed_sound w g).sound k
