-- `text::put_text` meets its contract: the first bytes are poured.
use mathlib.Core.Path.{◌≡◌}
use lib.ListN.{take}
use Rattle.text.specs.Pour.{poured, pour}
use Rattle.text.proofs.put_text.Given as goal

abbrev pub invariant-loop-b : goal.invariant-loop-b
invariant-loop-b l = poured l.k l.out ≡ pour (take l.b-index l.s) l.at l.initial.out
