-- `paths_cases::list` meets its contract.
use borrow.Author.Rules.{rules}
use Rattle.paths_cases.proofs.Answers.{ready, listable, within_or}
use Rattle.paths_cases.proofs.list.Goals as goal

pub build_paths64-requires : goal.build_paths64-requires
build_paths64-requires c = ready _ _ c.requires c.tests_of.ensures c.in-Ok.is

pub listing-requires : goal.listing-requires
listing-requires c = search (rules, listable)

pub returns : goal.returns
returns c = search (rules, within_or)
