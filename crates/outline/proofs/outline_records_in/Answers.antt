-- `outline_records_in` meets its contract: its four numbers are the window.
use Rattle.outline.proofs.Numbers.{found_here, as_found_lem}
use Rattle.outline.proofs.outline_records_in.Goals as goal

pub found_number-requires : goal.found_number-requires
found_number-requires c = found_here c.ranges.left c.ranges.top c.ranges.right c.ranges.bottom _ _ _ _ c.records_in-a.ensures

pub returns : goal.returns
returns c = as_found_lem c.ranges.left c.ranges.top c.ranges.right c.ranges.bottom _ _ _ _ c.records_in-a.ensures _ c.found_number.ensures
