-- `containment::put_pairs` meets its contract.
use borrow.Author.Rules.{rules}
use Rattle.containment.proofs.Rows.{table_boxed}
use Rattle.containment.proofs.put_pairs.Goals as goal

pub put_by_boxes-requires : goal.put_by_boxes-requires
put_by_boxes-requires c = search (rules, table_boxed)
