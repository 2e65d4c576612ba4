-- `charge::net_area` meets its contract: the sum so far and the areas left come to the sum of all.
use Prim.Native.Nat.{◌-◌}
use Rattle.listing.specs.Needs.{Netting}
use Rattle.listing.proofs.charge.net_area.Given as goal

abbrev pub invariant-loop-i : goal.invariant-loop-i
invariant-loop-i l = Netting l.t l.n l.f (l.n - l.i) l.a
