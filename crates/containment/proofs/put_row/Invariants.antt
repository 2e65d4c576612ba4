-- `containment::put_row` meets its contract.
use Prim.Native.Nat.{◌+◌, ◌-◌}
use Rattle.listing.specs.Fields.{path_in, paths_in}
use Rattle.containment.specs.Answers.{row}
use Rattle.containment.specs.Needs.{Rowing}
use Rattle.containment.proofs.put_row.Given as goal

abbrev pub invariant-loop-j : goal.invariant-loop-j
invariant-loop-j l = Rowing l.t l.boxes (path_in l.t l.f) l.at l.initial.out (row (path_in l.t l.f) (paths_in l.t l.count l.from)) l.out l.k l.j l.g (l.first + l.count - l.j)
