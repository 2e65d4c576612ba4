-- `finish_opened` meets its contract.
use borrow.Author.Rules.{rules}
use Rattle.finishing.proofs.InOneCall.{unboxed_finishes, may_box, few_box, may_write, rings_done_lem, rings_full_lem}
use Rattle.finishing.proofs.finish.finish_opened.Goals as goal

pub finish_records-requires : goal.finish_records-requires
finish_records-requires c = search (unboxed_finishes, rules)

pub box_records-requires : goal.box_records-requires
box_records-requires c = (search may_box, search few_box)

pub write_finished-requires : goal.write_finished-requires
write_finished-requires c = search may_write

pub returns-in-Ok : goal.returns-in-Ok
returns-in-Ok c = search rings_done_lem

pub returns-in-Err : goal.returns-in-Err
returns-in-Err c = search rings_full_lem
