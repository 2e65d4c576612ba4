-- `paths::count_bytes` meets its contract: the bytes of the records below i are counted.
use Rattle.paths.specs.Count.{Tally}
use Rattle.paths.proofs.count_bytes.Given as goal

abbrev pub invariant-loop-i : goal.invariant-loop-i
invariant-loop-i l = Tally l.w l.opened l.i l.bytes
