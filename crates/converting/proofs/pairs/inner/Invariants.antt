-- `converting::pairs::inner` meets its contract: the loop follows the definition.
use mathlib.Core.Path.{◌≡◌}
use Prim.Native.Nat.{◌+◌, ◌-◌}
use lib.ListN.{length}
use Rattle.converting.specs.Make.{inner_from}
use Rattle.converting.proofs.Looping.{Inner}
use Rattle.converting.proofs.pairs.inner.Given as goal

abbrev pub invariant-loop-j : goal.invariant-loop-j
invariant-loop-j l = Inner (inner_from (256 - (l.i + 1)) l.rights l.forwards l.i (l.i + 1) l.initial.w l.initial.lefts l.initial.joins l.before) l.w l.lefts l.rights l.forwards l.joins l.m l.i l.j × (length l.w ≡ length l.initial.w) × (length l.lefts ≡ length l.initial.lefts) × (length l.joins ≡ length l.initial.joins)
