-- `crossing::stepped` meets its contract.
use Rattle.crossing.proofs.Box.{stepped_range, stepped_cast, stepped_is}
use Rattle.crossing.proofs.stepped.Goals as goal

pub truncating_f64_to_i64-requires : goal.truncating_f64_to_i64-requires
truncating_f64_to_i64-requires c =
    let r = stepped_range c.requires in
    record { lower_bound = r.0; upper_bound = r.1 }

pub overflow_cast-result : goal.overflow_cast-result
overflow_cast-result c = stepped_cast c.requires c.truncating_f64_to_i64.ensures

pub returns : goal.returns
returns c = stepped_is c.requires c.truncating_f64_to_i64.ensures
