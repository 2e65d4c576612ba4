-- `converting::pairs::pair` meets its contract.
use Rattle.converting.proofs.Looping.{joining_of, pair_apart, pair_joined, pair_over, pair_pairing}
use Rattle.converting.proofs.pairs.pair.Goals as goal

pub returns-then-apart : goal.returns-then-apart
returns-then-apart c = pair_apart _ _ _ _ _ _ _ _ _ c.apart.ensures c.if-apart.true

pub join_pair-requires : goal.join_pair-requires
join_pair-requires c = joining_of _ _ _ _ _ _ (pair_over _ _ _ _ _ _ _ _ _ c.apart.ensures c.requires c.if-apart.false) _ _ (pair_pairing _ _ _ _ _ _ _ _ c.requires)

pub returns : goal.returns
returns c = pair_joined _ _ _ _ _ _ _ _ _ c.apart.ensures _ _ _ _ c.if-apart.false c.join_pair.ensures
