-- `paths::write_round` meets its contract: what is written and what the rest of the walk adds is the path.
use borrow.Author.Rules.{rules}
use Rattle.paths.proofs.Walks.{round_here, going_less}
use Rattle.paths.proofs.Writing.{one_fits, laying_begins, laying_on, laying_here, laying_room, laying_ends}
use Rattle.paths.proofs.round.write_round.Goals as goal

pub put_point-requires : goal.put_point-requires
put_point-requires c = (round_here _ _ _ c.requires.round, one_fits _ _ _ _ c.requires)

pub link-q-requires : goal.link-q-requires
link-q-requires c = let h = round_here _ _ _ c.requires.round in search rules

pub loop-q-init : goal.loop-q-init
loop-q-init c = laying_begins _ _ _ _ _ _ c.requires c.put_point.ensures c.link-q.ensures

pub put_more-at-requires : goal.put_more-at-requires
put_more-at-requires c = let h = laying_here _ _ _ _ _ _ _ _ c.loop-q.invariant c.requires.round c.loop-q-test.true in
    (h.0, h.1, laying_room _ _ _ _ _ _ _ _ c.loop-q.invariant c.loop-q-test.true)

pub link-q-requires-in-loop-q : goal.link-q-requires-in-loop-q
link-q-requires-in-loop-q c = let h = laying_here _ _ _ _ _ _ _ _ c.loop-q.invariant c.requires.round c.loop-q-test.true in search rules

pub loop-q-smaller : goal.loop-q-smaller
loop-q-smaller c = going_less _ _ _ _ _ _ c.loop-q.invariant c.loop-q-test.true c.link-q-in-loop-q.ensures

pub loop-q-preserved : goal.loop-q-preserved
loop-q-preserved c = laying_on _ _ _ _ _ _ _ _ c.loop-q.invariant _ _ _ c.loop-q-test.true c.put_more-at.ensures c.link-q-in-loop-q.ensures

pub returns : goal.returns
returns c = laying_ends _ _ _ _ _ _ _ _ c.loop-q.invariant _ c.loop-q-test.false c.requires c.put_point.ensures
