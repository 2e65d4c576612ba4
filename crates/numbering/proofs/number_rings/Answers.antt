-- `numbering::number_rings` meets its contract: the rings of the records below i are numbered.
use Prim.Native.Nat.{◌-◌}
use borrow.Author.Rules.{rules}
use Rattle.numbering.proofs.Rounds.{all_begun, all_on}
use Rattle.numbering.proofs.number_rings.Goals as goal

pub loop-i-init : goal.loop-i-init
loop-i-init c = all_begun _ _

pub loop-i-preserved : goal.loop-i-preserved
loop-i-preserved c = search (rules, all_on)
