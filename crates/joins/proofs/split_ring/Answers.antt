-- `joins::split_ring` meets its contract.
use borrow.Author.Rules.{rules}
use Rattle.joins.proofs.Turns.{pair_four, pair_one, pair_long, pair_next, pair_low_one, split_ring_new, split_ring_first, split_ring_done}
use Rattle.joins.proofs.split_ring.Goals as goal

pub relink-requires : goal.relink-requires
relink-requires c = search pair_four

pub new_out_rec-requires : goal.new_out_rec-requires
new_out_rec-requires c = search (rules, pair_long, pair_next, pair_low_one)

pub fix_outrec_pts-requires : goal.fix_outrec_pts-requires
fix_outrec_pts-requires c = split_ring_new _ _ _ _ _ _ _ _ c.requires.0 c.requires.1 c.requires.2 c.get-n.ensures.0 c.relink.ensures c.new_out_rec.ensures

pub move_first-requires : goal.move_first-requires
move_first-requires c = (
  search (rules, pair_long),
  pair_low_one _ _ _ _ _ c.requires.0,
  pair_one _ _ _ _ _ c.requires.0,
  split_ring_first _ _ _ _ _ _ _ _ c.requires.0 c.requires.1 c.requires.2 c.get-n.ensures.0 c.relink.ensures c.new_out_rec.ensures _ c.fix_outrec_pts.ensures,
)

pub returns : goal.returns
returns c = split_ring_done _ _ _ _ _ _ _ _ c.requires.0 c.requires.1 c.requires.2 c.get-n.ensures.0 c.relink.ensures c.new_out_rec.ensures _ _ c.fix_outrec_pts.ensures c.move_first.ensures
