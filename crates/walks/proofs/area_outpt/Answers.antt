-- area_outpt meets its contract: the edges yet to come, with the sum so far, make the area.
use Rattle.walks.proofs.Visiting.{sum_begun, sum_edge, sum_falls}
use Rattle.walks.proofs.Edges.{add_fits, add_on, add_end}
use Rattle.walks.proofs.area_outpt.Goals as goal

pub loop-op2-init : goal.loop-op2-init
loop-op2-init c = search sum_begun

pub edge_to-result-requires : goal.edge_to-result-requires
edge_to-result-requires c = search sum_edge

pub overflow_add-result : goal.overflow_add-result
overflow_add-result c = search add_fits

pub loop-op2-smaller : goal.loop-op2-smaller
loop-op2-smaller c = search sum_falls

pub loop-op2-preserved : goal.loop-op2-preserved
loop-op2-preserved c = search add_on

pub returns-then-op2-op_start : goal.returns-then-op2-op_start
returns-then-op2-op_start c = search add_end
