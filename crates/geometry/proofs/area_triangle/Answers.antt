-- `geometry::area_triangle` meets its contract: three parts of 2 ^ 42 fit.
use Rattle.exact.proofs.Words.{held_64, held_add, fits_64}
use Rattle.geometry.specs.Plane.{area_triangle}
use Rattle.geometry.proofs.Coordinates.{edge_of}
use Rattle.geometry.proofs.area_triangle.Goals as goal

pub overflow_add-result : goal.overflow_add-result
unfolding area_triangle
overflow_add-result c = let p = edge_of c.requires.fact_3 c.requires.fact_1 c.edge_area.ensures in
    let q = edge_of c.requires.fact_1 c.requires.fact_2 c.edge_area-2.ensures in
    fits_64 (held_add (held_64 p tt) (held_64 q tt)) tt

pub overflow_add-result-2 : goal.overflow_add-result-2
unfolding area_triangle
overflow_add-result-2 c = let p = edge_of c.requires.fact_3 c.requires.fact_1 c.edge_area.ensures in
    let q = edge_of c.requires.fact_1 c.requires.fact_2 c.edge_area-2.ensures in
    let s = edge_of c.requires.fact_2 c.requires.fact_3 c.edge_area-3.ensures in
    fits_64 (held_add (held_64 (held_add (held_64 p tt) (held_64 q tt)) tt) (held_64 s tt)) tt

pub returns : goal.returns
unfolding area_triangle
returns c = let p = edge_of c.requires.fact_3 c.requires.fact_1 c.edge_area.ensures in
    let q = edge_of c.requires.fact_1 c.requires.fact_2 c.edge_area-2.ensures in
    let s = edge_of c.requires.fact_2 c.requires.fact_3 c.edge_area-3.ensures in
    (held_64 (held_add (held_64 (held_add (held_64 p tt) (held_64 q tt)) tt) (held_64 s tt)) tt).is
