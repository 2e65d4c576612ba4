-- `paths::write_long` meets its contract: the points in the part after the header, and then the header.
use mathlib.Core.Path.{refl}
use native.Mathlib.Omega.{arith}
use Rattle.paths.proofs.Fields.{header_room, part_fit, head_room, head_after}
use Rattle.paths.proofs.field.write_long.Goals as goal

pub slice_bounds-write_points-count : goal.slice_bounds-write_points-count
slice_bounds-write_points-count c = let h = header_room _ _ _ _ _ c.requires.0 _ refl c.requires.1 in omega arith

pub slice_bounds-write_points-start : goal.slice_bounds-write_points-start
slice_bounds-write_points-start c = let h = header_room _ _ _ _ _ c.requires.0 _ refl c.requires.1 in omega arith

pub write_points-n-requires : goal.write_points-n-requires
write_points-n-requires c = part_fit _ _ _ _ _ c.requires.0 _ refl c.requires.1

pub put_header-requires : goal.put_header-requires
put_header-requires c = head_room _ _ _ _ _ c.requires.0 _ refl c.requires.1 _ _ c.write_points-n.ensures

pub returns : goal.returns
returns c = head_after _ _ _ _ _ c.requires.0 _ refl c.requires.1 _ _ c.write_points-n.ensures _ _ c.tag_of-tag.ensures c.put_header.ensures
