-- `pooling::lay_column` meets its contract: the loop follows the definition.
use mathlib.Core.Path.{◌≡◌}
use Rattle.store.specs.Column.{column_of}
use Rattle.pooling.specs.Pooled.{raise}
use Rattle.pooling.specs.Words.{lay_column}
use Rattle.pooling.proofs.lay_column.Given as goal

abbrev pub invariant-loop-i : goal.invariant-loop-i
invariant-loop-i l = (l.first ≡ lay_column (column_of l.c) (raise l.by l.of) l.m l.i l.second l.initial.first)
