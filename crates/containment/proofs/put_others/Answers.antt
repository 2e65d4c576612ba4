-- `containment::put_others` meets its contract.
use borrow.Author.Rules.{rules}
use Rattle.containment.proofs.Rows.{placed_field, placed_before, placed_after, boxes_before, boxes_after, others_poured}
use Rattle.containment.proofs.put_others.Goals as goal

pub value_length-length-requires : goal.value_length-length-requires
value_length-length-requires c = (placed_field _ _ _ _ c.requires.fact_1 c.requires.fact_2).head

pub overflow_add-next : goal.overflow_add-next
overflow_add-next c = let h = placed_field _ _ _ _ c.requires.fact_1 c.requires.fact_2 in search rules

pub overflow_add-next-2 : goal.overflow_add-next-2
overflow_add-next-2 c = let h = placed_field _ _ _ _ c.requires.fact_1 c.requires.fact_2 in search rules

pub put_row-a-requires : goal.put_row-a-requires
put_row-a-requires c = record { fact_1 = placed_field _ _ _ _ c.requires.fact_1 c.requires.fact_2; fact_2 = placed_before _ _ _ _ c.requires.fact_1 c.requires.fact_2; fact_3 = boxes_before _ _ _ _ c.requires.fact_3 c.requires.fact_2 }

pub put_row-requires : goal.put_row-requires
put_row-requires c = record { fact_1 = placed_field _ _ _ _ c.requires.fact_1 c.requires.fact_2; fact_2 = placed_after _ _ _ _ c.requires.fact_1 c.requires.fact_2 _ c.value_length-length.ensures; fact_3 = boxes_after _ _ _ _ _ c.requires.fact_1 c.requires.fact_2 c.requires.fact_3 _ c.value_length-length.ensures }

pub returns : goal.returns
returns c = others_poured c.args.t.now c.args.c c.args.i c.args.f _ c.args.at _ _ c.args.out.now _ _ c.value_length-length.ensures c.put_row-a.ensures c.put_row.ensures
