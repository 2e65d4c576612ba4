-- `list_finished` meets its contract.
use borrow.Author.Rules.{rules}
use Rattle.job_listing.proofs.Listing.{may_list, may_charge, may_ask, paths_listed, refusal_listed}
use Rattle.job_listing.proofs.list_finished.Goals as goal

pub reverse_solution-rev-requires : goal.reverse_solution-rev-requires
reverse_solution-rev-requires c = search (rules, may_ask)

pub list_paths-requires-clause-fact_1 : goal.list_paths-requires-clause-fact_1
list_paths-requires-clause-fact_1 c = search (rules, may_list)

pub list_paths-requires-clause-fact_2 : goal.list_paths-requires-clause-fact_2
list_paths-requires-clause-fact_2 c = search (rules, may_charge)

pub returns-in-Ok : goal.returns-in-Ok
returns-in-Ok c = search (rules, paths_listed)

pub returns-in-Err : goal.returns-in-Err
returns-in-Err c = search (rules, refusal_listed)
