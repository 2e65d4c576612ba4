-- `paths::has_four` meets its contract: the points counted and those that the rest of the walk adds are all.
use borrow.Author.Rules.{rules}
use Rattle.paths.proofs.Walks.{round_here, going_less}
use Rattle.paths.proofs.Rounds.{counting_begins, counting_on, counting_here, four_counted, few_counted}
use Rattle.paths.proofs.round.has_four.Goals as goal

pub link-q-requires : goal.link-q-requires
link-q-requires c = let h = round_here _ _ _ c.requires in search rules

pub loop-q-init : goal.loop-q-init
loop-q-init c = (counting_begins _ _ _ _ c.requires c.link-q.ensures, search rules)

pub adds-d-requires : goal.adds-d-requires
adds-d-requires c = counting_here _ _ _ _ _ _ c.requires c.loop-q.invariant.0 c.loop-q-test.true

pub returns-then-n-gt3 : goal.returns-then-n-gt3
returns-then-n-gt3 c = four_counted _ _ _ _ _ _ _ c.loop-q.invariant.0 c.loop-q-test.true c.adds-d.ensures c.if-n-gt3.true

pub link-q-requires-in-loop-q : goal.link-q-requires-in-loop-q
link-q-requires-in-loop-q c = let h = counting_here _ _ _ _ _ _ c.requires c.loop-q.invariant.0 c.loop-q-test.true in search rules

pub loop-q-smaller : goal.loop-q-smaller
loop-q-smaller c = going_less _ _ _ _ _ _ c.loop-q.invariant.0 c.loop-q-test.true c.link-q-in-loop-q.ensures

pub loop-q-preserved : goal.loop-q-preserved
loop-q-preserved c = (counting_on _ _ _ _ _ _ _ _ c.loop-q.invariant.0 c.loop-q-test.true c.adds-d.ensures c.link-q-in-loop-q.ensures, search rules)

pub returns : goal.returns
returns c = few_counted _ _ _ _ _ _ c.loop-q.invariant.0 c.loop-q-test.false c.loop-q.invariant.1
