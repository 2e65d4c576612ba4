-- count_in meets its contract.
use Rattle.windows.proofs.Listing.{counting_fits, counting_ends}
use Rattle.windows.proofs.count_in.Goals as goal

pub overflow_add-m : goal.overflow_add-m
overflow_add-m c = search counting_fits

pub returns : goal.returns
returns c = search counting_ends
