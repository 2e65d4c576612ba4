-- `drop_point` meets its contract.
use borrow.Author.Rules.{rules}
use Rattle.applying.proofs.Applying.{beside, went_low, dropped}
use Rattle.applying.proofs.drop_point.Goals as goal

pub dispose_out_pt-n-requires : goal.dispose_out_pt-n-requires
dispose_out_pt-n-requires c = beside _ _ _ _ _ c.requires c.get-x.ensures.0 c.fix_first.ensures

pub set_loop-requires : goal.set_loop-requires
set_loop-requires c = let l = went_low _ _ _ _ _ c.requires c.get-x.ensures.0 c.fix_first.ensures _ _ c.dispose_out_pt-n.ensures in
    (search rules, search rules, l)

pub returns : goal.returns
returns c = dropped _ _ _ _ _ c.requires c.get-x.ensures.0 c.fix_first.ensures _ _ c.dispose_out_pt-n.ensures _ c.get-p.ensures.0 c.set_loop.ensures
