-- `listing::put_lines` meets its contract: the lines of the fields passed are poured.
use Prim.Native.Nat.{◌-◌}
use Rattle.listing.specs.Needs.{Going}
use Rattle.listing.proofs.put_lines.Given as goal

abbrev pub invariant-loop-i : goal.invariant-loop-i
invariant-loop-i l = Going l.t l.from l.count l.rev l.opened l.at l.initial.out l.out l.k l.f (l.count - l.i)
