-- `containment::put_by_boxes` meets its contract.
use borrow.Author.Rules.{rules}
use Rattle.containment.proofs.Rows.{pairing_begins, pairing_field, pairing_on}
use Rattle.containment.proofs.put_by_boxes.Goals as goal

pub loop-i-init : goal.loop-i-init
loop-i-init c = search (rules, pairing_begins)

pub value_length-length-requires : goal.value_length-length-requires
value_length-length-requires c = (pairing_field _ _ _ _ _ _ _ c.loop-i.invariant c.loop-i-test.true).head

pub overflow_add-f : goal.overflow_add-f
overflow_add-f c = let h = pairing_field _ _ _ _ _ _ _ c.loop-i.invariant c.loop-i-test.true in search rules

pub overflow_add-f-in-loop-i : goal.overflow_add-f-in-loop-i
overflow_add-f-in-loop-i c = let h = pairing_field _ _ _ _ _ _ _ c.loop-i.invariant c.loop-i-test.true in search rules

pub loop-i-preserved : goal.loop-i-preserved
loop-i-preserved c = pairing_on _ _ _ _ _ _ _ c.loop-i.invariant c.loop-i-test.true _ _ _ c.put_others-k.ensures c.value_length-length.ensures
