-- `mending::write_prevs` meets its contract: the bytes after k points.
use mathlib.Core.Path.{◌≡◌}
use Prim.Native.Nat.{◌≤◌}
use lib.ListN.{length}
use Rattle.mending.specs.Mend.{with_prevs}
use Rattle.mending.specs.Needs.{table_at}
use Rattle.mending.proofs.write_prevs.Given as goal

abbrev pub invariant-loop-k : goal.invariant-loop-k
invariant-loop-k l = (l.k ≤ l.n) × (l.job ≡ with_prevs (table_at l.t) l.k l.initial.job) × (length l.job ≡ length l.initial.job)
