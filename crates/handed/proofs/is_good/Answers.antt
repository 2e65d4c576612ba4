-- is_good meets its contract.
use borrow.Author.Rules.{rules}
use Rattle.audit.proofs.Marking.{few_zeros, all_zeros}
use Rattle.handed.proofs.is_good.Goals as goal

pub none_found-requires : goal.none_found-requires
none_found-requires c = (search rules, search (rules, few_zeros))

pub none_found-requires-2 : goal.none_found-requires-2
none_found-requires-2 c = (search rules, search all_zeros)
