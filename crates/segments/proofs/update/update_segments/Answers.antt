-- `segments::update::update_segments` meets its contract: the loop follows the definition.
use Rattle.std.proofs.Common.{arith, refl}
use Rattle.segments.proofs.Updates.{updating_begun, updating_point, updating_next, updating_done, through_low}
use Rattle.segments.proofs.update.update_segments.Goals as goal

pub loop-i-init : goal.loop-i-init
loop-i-init c = search updating_begun

pub claim-requires : goal.claim-requires
claim-requires c = through_low _ _ _ (updating_point _ _ _ _ _ _ _ c.loop-i.invariant _ (omega arith) c.point_at.ensures) c.segment_through-s.ensures

pub loop-i-preserved : goal.loop-i-preserved
loop-i-preserved c = updating_next _ _ _ _ _ _ _ c.loop-i.invariant _ _ _ _ _ (omega arith) c.point_at.ensures c.segment_through-s.ensures c.claim.ensures refl

pub returns : goal.returns
returns c = updating_done _ _ _ _ _ _ _ c.loop-i.invariant (omega arith)
