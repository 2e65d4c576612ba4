-- `containing::path2_contains_path1` meets its contract.
use Prim.Native.Nat.{◌-◌}
use Rattle.listing.specs.Fields.{points_in}
use Rattle.containing.specs.Contains.{path2_contains_path1}
use Rattle.containing.specs.Needs.{Deciding}
use Rattle.containing.proofs.Deciding.{middle}
use Rattle.containing.proofs.path2_contains_path1.Given as goal

abbrev pub invariant-loop-i : goal.invariant-loop-i
invariant-loop-i l = Deciding l.t (points_in l.t l.n2 l.from2) l.pip l.at (l.n1 - l.i) (middle l.t l.n1 l.from1 (points_in l.t l.n2 l.from2)) (path2_contains_path1 (points_in l.t l.n1 l.from1) (points_in l.t l.n2 l.from2))
