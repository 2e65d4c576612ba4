-- `containment::put_row` meets its contract.
use borrow.Author.Rules.{rules}
use native.Mathlib.Omega.{arith}
use Rattle.containment.proofs.Rows.{rowing_starts, rowing_field, rowing_box, rowing_next, rowing_ends}
use Rattle.containment.proofs.put_row.Goals as goal

pub loop-j-init : goal.loop-j-init
loop-j-init c = rowing_starts _ _ _ _ _ _ _ _ c.requires.fact_2 c.requires.fact_3

pub put_one-k-requires : goal.put_one-k-requires
put_one-k-requires c =
    record { fact_1 = c.requires.fact_1; fact_2 = rowing_field _ _ _ _ _ _ _ _ _ _ _ c.loop-j.invariant (omega arith); fact_3 = rowing_box _ _ _ _ _ _ _ _ _ _ _ c.loop-j.invariant (omega arith) }

pub overflow_add-g : goal.overflow_add-g
overflow_add-g c = let h = rowing_field _ _ _ _ _ _ _ _ _ _ _ c.loop-j.invariant (omega arith) in search rules

pub overflow_add-g-in-loop-j : goal.overflow_add-g-in-loop-j
overflow_add-g-in-loop-j c = let h = rowing_field _ _ _ _ _ _ _ _ _ _ _ c.loop-j.invariant (omega arith) in search rules

pub loop-j-preserved : goal.loop-j-preserved
loop-j-preserved c = rowing_next _ _ _ _ _ _ _ _ _ _ _ c.loop-j.invariant c.loop-j-test.true _ _ _ c.put_one-k.ensures c.value_length-length.ensures

pub returns : goal.returns
returns c = rowing_ends _ _ _ _ _ _ _ _ _ _ _ c.loop-j.invariant (omega arith)
