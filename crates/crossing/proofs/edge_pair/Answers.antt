-- `crossing::edge_pair` meets its contract.
use Rattle.crossing.proofs.Differences.{edge_pair_of}
use Rattle.crossing.proofs.edge_pair.Goals as goal

pub returns : goal.returns
returns c = edge_pair_of c.requires.fact_1 c.requires.fact_2 c.requires.fact_3 c.requires.fact_4
