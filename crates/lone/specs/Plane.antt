-- The real geometry of the lone ring: crate geometry's tests, with the setting `preserve_collinear`.
use Rattle.std.specs.Prelude.{Bool}
use Rattle.geometry.specs.declared.Point.{Point}
use Rattle.geometry.specs.Plane.{same_point, area_triangle, area_outpt, is_very_small_triangle, removable, segments_intersect}
use Rattle.crossing.specs.Crossing.{crossing_point}
use Rattle.rings.specs.Progress.{Ring}
use Rattle.lone.specs.Lone.{Geo}
use Rattle.lone.specs.Forest.{Machine}
use Rattle.lone.specs.Order.{machine}

abbrev pub plane : Bool → Geo Point
plane preserve = record {
  removable = removable preserve;
  segments_intersect = segments_intersect;
  crossing_point = crossing_point;
  area_outpt = area_outpt;
  area_triangle = area_triangle;
  is_very_small_triangle = is_very_small_triangle;
  same_point = same_point;
}

-- the lone ring of document 01, by the setting
abbrev pub lone_ring : Bool → Machine (Ring Point)
lone_ring preserve = machine (plane preserve)
