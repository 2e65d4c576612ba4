-- `opening::clear::is_blank` meets its contract.
use Rattle.opening.proofs.Blanking.{Looking}
use Rattle.opening.proofs.clear.is_blank.Given as goal

abbrev pub invariant-loop-k : goal.invariant-loop-k
invariant-loop-k l = Looking l.t l.at l.found l.k
