-- `opening::open::open` meets its contract: opened without boxes, and then they are written.
use Rattle.std.proofs.lemmas.Result.{err_from_is_err_and}
use Rattle.opening.proofs.Unboxed.{unboxed_long, unboxed_few, boxes_written, no_boxes}
use Rattle.opening.proofs.open.open.Goals as goal

pub box_records-requires : goal.box_records-requires
box_records-requires c = (unboxed_long _ _ _ _ c.open_unboxed.ensures c.in_ok-open_unboxed.was, unboxed_few _ _ _ _ c.open_unboxed.ensures c.in_ok-open_unboxed.was)

pub returns : goal.returns
returns c = boxes_written _ _ _ _ c.open_unboxed.ensures _ c.in_ok-open_unboxed.was c.box_records.ensures

pub returns-in_err-open_unboxed : goal.returns-in_err-open_unboxed
returns-in_err-open_unboxed c =
    let p = err_from_is_err_and c.from_residual.result c.from_residual.ensures.1 in
    rw (p.1, p.2) (no_boxes _ _ _ _ c.open_unboxed.ensures _ c.in_err-open_unboxed.was)
