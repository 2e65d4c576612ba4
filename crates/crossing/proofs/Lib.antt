-- Laws of the crossing of two edges.
-- Differences, Fractions: on points within the limit the code's floats are the whole numbers (`intersect_of`, `fraction_float`).
-- Inner: `crossing_inside`, both fractions strictly between 0 and 1 where the crossing test holds. Crossings: `crossing_in_box`, `crossing_in_table`.
pub mod Examples
pub mod Differences
pub mod Fractions
pub mod Box
pub mod Crossings
pub mod Inner
