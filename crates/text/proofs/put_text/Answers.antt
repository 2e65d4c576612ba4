-- `text::put_text` meets its contract: the first bytes are poured.
use Rattle.text.proofs.Pouring.{pour_none, text_more}
use Rattle.text.proofs.put_text.Goals as goal

pub loop-b-init : goal.loop-b-init
loop-b-init c = pour_none _ _

pub loop-b-preserved : goal.loop-b-preserved
loop-b-preserved c = text_more _ _ _ _ _ _ _ _ c.loop-b.invariant c.loop-b-test.true c.put-k.ensures
