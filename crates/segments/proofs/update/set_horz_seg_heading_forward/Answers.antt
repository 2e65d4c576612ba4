-- `segments::update::set_horz_seg_heading_forward` meets its contract.
use Rattle.segments.proofs.Updates.{headed_none, headed_on, headed_back}
use Rattle.segments.proofs.update.set_horz_seg_heading_forward.Goals as goal

pub returns-then-a-b : goal.returns-then-a-b
returns-then-a-b c = headed_none _ _ _ _ _ _ c.get-a.ensures.0 c.get-b.ensures.0 c.if-a-b.true

pub returns-then-a-b-2 : goal.returns-then-a-b-2
returns-then-a-b-2 c = headed_on _ _ _ _ _ _ c.get-a.ensures.0 c.get-b.ensures.0 c.if-a-b.false c.if-a-b-2.true

pub returns : goal.returns
returns c = headed_back _ _ _ _ _ _ c.get-a.ensures.0 c.get-b.ensures.0 c.if-a-b.false c.if-a-b-2.false
