-- `fields::put_low` meets its contract: as many low bytes are written as were passed, and `rest` is what is above them.
use mathlib.Core.Path.{◌≡◌}
use Prim.Native.Nat.{◌/◌, ◌^◌}
use Rattle.paths.specs.Tray.{low_bytes}
use Rattle.text.specs.Pour.{poured, pour}
use Rattle.fields.proofs.put_low.Given as goal

abbrev pub invariant-loop : goal.invariant-loop
invariant-loop g l = (l.rest ≡ l.v / 256 ^ l.counter) × (poured l.k l.out ≡ pour (low_bytes l.counter l.v) l.at l.initial.out)
