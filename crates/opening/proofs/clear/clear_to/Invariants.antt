-- `opening::clear::clear_to` meets its contract: after each block the words up to it are 0 and the rest are as they were.
use Prim.Native.Nat.{◌*◌}
use Rattle.opening.proofs.Blanking.{Clearing}
use Rattle.opening.proofs.clear.clear_to.Given as goal

abbrev pub invariant-loop-k : goal.invariant-loop-k
invariant-loop-k l = Clearing l.n l.initial.work l.work (l.k * 128)
