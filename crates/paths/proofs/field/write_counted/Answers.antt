-- `paths::write_counted` meets its contract.
use mathlib.Core.Path.{ap}
use Prim.Native.Nat.{◌*◌}
use native.Mathlib.Omega.{arith}
use Rattle.paths.specs.Tray.{POINT}
use Rattle.paths.specs.Walking.{Laid}
use Rattle.paths.proofs.Fields.{no_field, header_room, header_length, field_sum, points_fit, field_laid}
use Rattle.paths.proofs.field.write_counted.Goals as goal

pub returns-then-k-eq0 : goal.returns-then-k-eq0
returns-then-k-eq0 c = no_field _ _ _ _ _ c.size_if-k.ensures c.if-k-eq0.true

pub put_header-requires : goal.put_header-requires
put_header-requires c = (header_room _ _ _ _ _ c.requires _ c.size_if-k.ensures c.if-k-eq0.false, field_sum _ _ _ _ _ c.requires _ c.size_if-k.ensures c.if-k-eq0.false)

pub slice_bounds-write_points-count : goal.slice_bounds-write_points-count
slice_bounds-write_points-count c = let h = header_room _ _ _ _ _ c.requires _ c.size_if-k.ensures c.if-k-eq0.false in let l = header_length c.args.t.now _ c.tag_of-tag.result (POINT * c.size_if-k.result) c.put_header.ensures in omega arith

pub slice_bounds-write_points-start : goal.slice_bounds-write_points-start
slice_bounds-write_points-start c = let h = header_room _ _ _ _ _ c.requires _ c.size_if-k.ensures c.if-k-eq0.false in let l = header_length c.args.t.now _ c.tag_of-tag.result (POINT * c.size_if-k.result) c.put_header.ensures in omega arith

pub write_points-requires : goal.write_points-requires
write_points-requires c = points_fit _ _ _ _ _ c.requires _ c.size_if-k.ensures c.if-k-eq0.false _ _ c.tag_of-tag.ensures c.put_header.ensures

pub overflow_mul-result : goal.overflow_mul-result
overflow_mul-result c = let h = field_sum _ _ _ _ _ c.requires _ c.size_if-k.ensures c.if-k-eq0.false in record { fits = omega arith }

pub overflow_add-result : goal.overflow_add-result
overflow_add-result c = let h = field_sum _ _ _ _ _ c.requires _ c.size_if-k.ensures c.if-k-eq0.false in record { fits = omega arith }

pub returns : goal.returns
returns c = field_laid _ _ _ _ _ c.requires _ c.size_if-k.ensures c.if-k-eq0.false _ _ c.tag_of-tag.ensures c.put_header.ensures _ (ap (λ (z : Laid). z.tray) c.write_points.ensures)
