-- The first segments are read, and each slice keeps its length.
use mathlib.Core.Path.{◌≡◌}
use lib.ListN.{length}
use Rattle.segment_rows_cases.proofs.put_segments.Given as goal

abbrev pub invariant-loop-k : goal.invariant-loop-k
invariant-loop-k l = (length l.keys ≡ length l.initial.keys) × (length l.lefts ≡ length l.initial.lefts) × (length l.rights ≡ length l.initial.rights) × (length l.forwards ≡ length l.initial.forwards)
