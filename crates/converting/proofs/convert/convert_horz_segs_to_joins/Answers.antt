-- `converting::convert::convert_horz_segs_to_joins` meets its contract.
use Rattle.converting.proofs.Converting.{sorted_pairing, converted}
use Rattle.converting.proofs.Valid.{one_alone}
use Rattle.converting.proofs.convert.convert_horz_segs_to_joins.Goals as goal

pub returns-then-n-lt2 : goal.returns-then-n-lt2
returns-then-n-lt2 c = one_alone _ _ _ _ _ c.if-n-lt2.true

pub outer-requires : goal.outer-requires
outer-requires c = sorted_pairing _ _ _ _ _ c.requires _ _ _ _ _ c.update_segments-list.ensures c.sort_rows-ordered.ensures c.spread.ensures

pub returns : goal.returns
returns c = converted _ _ _ _ _ c.requires _ _ _ _ _ c.update_segments-list.ensures c.sort_rows-ordered.ensures c.spread.ensures _ _ _ _ c.outer.ensures
