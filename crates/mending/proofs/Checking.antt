-- Rows 1 to 5 of a job: each law's premises are what the calls ensure.
use mathlib.Core.Path.{◌≡◌}
use mathlib.Core.List.{List}
use Prim.Native.Nat.{ℕ, ◌*◌, ◌≤◌}
use native.Mathlib.Omega.{arith}
use lib.ListN.{length, replicate, length-replicate}
use Rattle.std.specs.Prelude.{Result}
use Rattle.std.proofs.Common.{Ok, Err}
use Rattle.job.specs.Limits as limit
use Rattle.job.specs.declared.Job.{Job}
use Rattle.job.specs.declared.refusal.Refusal.{Refusal}
use Rattle.store.specs.Field.{BLOCK}
use Rattle.reading.specs.Fill.{end}
use Rattle.reading.specs.Needs.{Space}
use Rattle.reading.specs.Read.{read_of}
use Rattle.rows.specs.Found.{Filled}
use Rattle.accepting.proofs.Accepting.{may_judge}
use Rattle.mending.specs.Mend.{checked, checked_of}
use Rattle.rows.specs.Found.{first_rows}

abbrev pub SS : List ℕ
SS = replicate limit.SEGMENTS 0

abbrev pub JS : List ℕ
JS = replicate (2 * limit.JOINS) 0

pub space : (w : List ℕ) → BLOCK ≤ length w → Space w (replicate limit.SEGMENTS 0) (replicate (2 * limit.JOINS) 0)
space w h = record { words = h; segments = omega (arith, length-replicate {A = ℕ} limit.SEGMENTS 0); joins = omega (arith, length-replicate {A = ℕ} (2 * limit.JOINS) 0) }

module _ (bytes w v ts ks : List ℕ) (r : Result Job Refusal) (e : end r v ts ks ≡ read_of bytes w (replicate limit.SEGMENTS 0) (replicate (2 * limit.JOINS) 0)) where
  pub saw_filled : (j : Job) → BLOCK ≤ length w → r ≡ Ok j → Filled v ts j.segments ks j.joins
  saw_filled j l h = may_judge bytes w (replicate limit.SEGMENTS 0) (replicate (2 * limit.JOINS) 0) v ts ks r j (space w l) e h

  pub saw_judged : (j : Job) (x : Result (Unit {0}) Refusal) → r ≡ Ok j → x ≡ first_rows v ts j.segments ks j.joins → checked x v ≡ checked_of bytes w
  unfolding checked_of
  saw_judged j x h a = rw (a, ← e, h)

  pub saw_refused : (x : Refusal) → r ≡ Err x → checked (Err x) v ≡ checked_of bytes w
  unfolding checked_of
  saw_refused x h = rw (← e, h)
