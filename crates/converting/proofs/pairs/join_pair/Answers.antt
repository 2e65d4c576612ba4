-- `converting::pairs::join_pair` meets its contract.
use Rattle.converting.proofs.Looping.{join_on, join_back, joined_on, joined_back}
use Rattle.converting.proofs.pairs.join_pair.Goals as goal

pub make_join-requires : goal.make_join-requires
make_join-requires c = join_on _ _ _ _ _ _ c.requires.overlapping _ _ _ _ c.requires.pairing c.moved-t.ensures.0 c.moved-t.ensures.1

pub returns-then-f-eq1 : goal.returns-then-f-eq1
returns-then-f-eq1 c = joined_on _ _ _ _ _ _ c.requires.overlapping _ _ _ _ c.requires.pairing c.moved-t.ensures.0 c.moved-t.ensures.1 _ _ _ _ _ _ c.load-f.ensures c.save.ensures c.save-2.ensures c.if-f-eq1.true c.make_join.ensures

pub make_join-requires-2 : goal.make_join-requires-2
make_join-requires-2 c = join_back _ _ _ _ _ _ c.requires.overlapping _ _ _ _ c.requires.pairing c.moved-t.ensures.0 c.moved-t.ensures.1

pub returns : goal.returns
returns c = joined_back _ _ _ _ _ _ c.requires.overlapping _ _ _ _ c.requires.pairing c.moved-t.ensures.0 c.moved-t.ensures.1 _ _ _ _ _ _ c.load-f.ensures c.save.ensures c.save-2.ensures c.if-f-eq1.false c.make_join-2.ensures
