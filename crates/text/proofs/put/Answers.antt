-- `text::put` meets its contract: within, at the end, past the end.
use Rattle.text.proofs.Pouring.{put_in, put_end, put_past}
use Rattle.text.proofs.put.Goals as goal

pub returns-then-at-n : goal.returns-then-at-n
returns-then-at-n c = put_in _ _ _ c.if-at-n.true

pub returns-then-n-at : goal.returns-then-n-at
returns-then-n-at c = put_past _ _ _ c.if-n-at.true

pub returns : goal.returns
returns c = put_end _ _ _ c.if-at-n.false c.if-n-at.false
