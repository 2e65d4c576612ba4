-- `listing::point_in` meets its contract.
use native.Mathlib.Omega.{arith}
use Rattle.listing.proofs.Points.{raised_low, raised_is, point_made, x_small, y_small}
use Rattle.listing.proofs.point_in.Goals as goal

pub lower-requires : goal.lower-requires
lower-requires c = raised_low c.args.t.now _ _ (λ i. omega (arith, c.shared_slice_known-1.given i)) (x_small _ _ c.requires) c.read_raised-x.ensures

pub lower-requires-2 : goal.lower-requires-2
lower-requires-2 c = raised_low c.args.t.now _ _ (λ i. omega (arith, c.shared_slice_known-1.given i)) (y_small _ _ c.requires) c.read_raised-y.ensures

pub returns : goal.returns
returns c = point_made _ _ _ _ _
    (raised_is c.args.t.now _ _ (λ i. omega (arith, c.shared_slice_known-1.given i)) (x_small _ _ c.requires) c.read_raised-x.ensures _ c.lower.ensures)
    (raised_is c.args.t.now _ _ (λ i. omega (arith, c.shared_slice_known-1.given i)) (y_small _ _ c.requires) c.read_raised-y.ensures _ c.lower-2.ensures)
    c.read_u32-z.ensures
