-- `geometry::is_very_small_triangle` meets its contract.
use Rattle.geometry.specs.Plane.{is_very_small_triangle}
use Rattle.geometry.proofs.is_very_small_triangle.Goals as goal

pub returns : goal.returns
unfolding is_very_small_triangle
returns c = cc (c.pts_really_close-3.ensures, c.pts_really_close-2.ensures, c.pts_really_close.ensures)
