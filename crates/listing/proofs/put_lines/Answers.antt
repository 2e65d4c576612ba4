-- `listing::put_lines` meets its contract: the lines of the fields passed are poured.
use Rattle.listing.proofs.Telling.{going_begins, going_on}
use Rattle.listing.proofs.put_lines.Goals as goal

pub loop-i-init : goal.loop-i-init
loop-i-init c = going_begins _ _ _ _ _ _ _ c.requires

pub loop-i-preserved : goal.loop-i-preserved
loop-i-preserved c = going_on _ _ _ _ _ _ _ _ _ _ _ _ c.loop-i.invariant c.loop-i-test.true _ _ _ c.put_line-k.ensures c.value_length.ensures.0
