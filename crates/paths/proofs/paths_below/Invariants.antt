-- `paths::paths_below` meets its contract: the paths of the records below j are counted.
use Prim.Native.Nat.{◌≤◌}
use Rattle.paths.specs.Count.{PathsSoFar}
use Rattle.paths.proofs.paths_below.Given as goal

abbrev pub invariant-loop-j : goal.invariant-loop-j
invariant-loop-j l = (l.j ≤ l.i) × PathsSoFar l.w l.opened l.j l.paths
