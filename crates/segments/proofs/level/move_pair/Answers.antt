-- `segments::level::move_pair` meets its contract.
use borrow.Author.Rules.{rules}
use Rattle.segments.specs.Pair.{one_of, two_of}
use Rattle.segments.proofs.Moving.{pair_low, pair_two}
use Rattle.segments.proofs.level.move_pair.Goals as goal

pub get-far-requires : goal.get-far-requires
unfolding one_of two_of
get-far-requires c = search (rules, pair_low)

pub run-two-requires : goal.run-two-requires
unfolding one_of two_of
run-two-requires c = search pair_two

pub returns : goal.returns
unfolding one_of two_of
returns c = (cc, cc)
