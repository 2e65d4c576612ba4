-- `joins::home` meets its contract.
use Rattle.joins.proofs.Finding.{point_res}
use Rattle.joins.proofs.home.Goals as goal

pub get_real_outrec-requires : goal.get_real_outrec-requires
get_real_outrec-requires c = search point_res
