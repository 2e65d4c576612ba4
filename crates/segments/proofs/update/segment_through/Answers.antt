-- `segments::update::segment_through` meets its contract.
use Rattle.segments.proofs.Updates.{point_at_home, home_long, back_low, ahead_low, through_is}
use Rattle.segments.proofs.update.segment_through.Goals as goal

pub ends-e-requires : goal.ends-e-requires
ends-e-requires c = search point_at_home

pub set_horz_seg_heading_forward-requires : goal.set_horz_seg_heading_forward-requires
set_horz_seg_heading_forward-requires c = let h = point_at_home _ _ _ c.requires c.home-i.ensures in
    (home_long _ _ _ h, back_low _ _ _ h _ c.ends-e.ensures, ahead_low _ _ _ h _ c.ends-e.ensures)

pub returns : goal.returns
returns c = through_is _ _ _ _ _ c.home-i.ensures c.ends-e.ensures c.set_horz_seg_heading_forward.ensures
