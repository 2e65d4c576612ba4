-- `owners::note` meets its contract: the chain from `q` has `n - k` owners to go.
use mathlib.Core.Path.{◌≡◌}
use Prim.Native.Nat.{◌-◌}
use lib.ListN.{length}
use Rattle.owners.specs.Tables.{Lengths}
use Rattle.owners.proofs.Following.{Noting}
use Rattle.owners.proofs.note.Given as goal

abbrev pub invariant-loop-k : goal.invariant-loop-k
invariant-loop-k l = Noting l.w l.q (l.n - l.k) × Lengths l.w l.lengths × (length l.lengths ≡ length l.initial.lengths)
