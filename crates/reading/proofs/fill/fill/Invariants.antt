-- `reading::fill::fill` meets its contract: the loop follows `run`, one turn at a time.
use mathlib.Core.Path.{◌≡◌}
use Prim.Native.Nat.{◌-◌}
use lib.ListN.{length}
use Rattle.reading.specs.Fill.{fill_of}
use Rattle.reading.proofs.Going.{Going}
use Rattle.reading.proofs.fill.fill.Given as goal

abbrev pub invariant-loop-j : goal.invariant-loop-j
invariant-loop-j l = Going l.bytes (fill_of l.bytes l.initial.w l.initial.segments l.initial.joins) l.j l.w l.segments l.joins × (length l.w ≡ length l.initial.w) × (length l.segments ≡ length l.initial.segments) × (length l.joins ≡ length l.initial.joins)

abbrev pub decreases-loop-j : goal.decreases-loop-j
decreases-loop-j l = length l.bytes - l.j.at
