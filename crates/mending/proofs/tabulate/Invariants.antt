-- `mending::tabulate` meets its contract: the table after k points.
use mathlib.Core.Path.{◌≡◌}
use Prim.Native.Nat.{◌≤◌}
use lib.ListN.{length}
use Rattle.store.specs.Named.{points_of, next_of}
use Rattle.mending.specs.Needs.{table_of}
use Rattle.mending.proofs.tabulate.Given as goal

abbrev pub invariant-loop-k : goal.invariant-loop-k
invariant-loop-k l = (l.k ≤ points_of l.w) × (l.t ≡ table_of (next_of l.w) l.k l.initial.t) × (length l.t ≡ length l.initial.t)
