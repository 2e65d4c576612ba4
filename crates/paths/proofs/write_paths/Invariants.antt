-- `paths::write_paths` meets its contract: the fields of the records below i are written, and their paths counted.
use Rattle.paths.specs.Count.{PathsSoFar}
use Rattle.paths.specs.Filling.{Filled}
use Rattle.paths.proofs.write_paths.Given as goal

abbrev pub invariant-loop-i : goal.invariant-loop-i
invariant-loop-i l = Filled l.w l.opened l.i l.used l.initial.t l.t × PathsSoFar l.w l.opened l.i l.paths
