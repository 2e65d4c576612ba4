-- `converting::pairs::outer` meets its contract: the loop follows the definition.
use mathlib.Core.Path.{◌≡◌}
use lib.ListN.{length}
use Rattle.converting.specs.Make.{outer_from}
use Rattle.converting.proofs.Looping.{Outer}
use Rattle.converting.proofs.pairs.outer.Given as goal

abbrev pub invariant-loop-i : goal.invariant-loop-i
invariant-loop-i l = Outer (outer_from 256 l.rights l.forwards 0 l.initial.w l.initial.lefts l.initial.joins l.before) l.w l.lefts l.rights l.forwards l.joins l.m l.i × (length l.w ≡ length l.initial.w) × (length l.lefts ≡ length l.initial.lefts) × (length l.joins ≡ length l.initial.joins)
