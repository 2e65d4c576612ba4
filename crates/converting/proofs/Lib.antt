-- Laws of the pairs of level segments.
-- Valid: `valid_first`, `few_valid`. Converting: `convert_joins`, what conversion leaves is what `process_horz_joins` asks. Making: `make_gives` (a join of two new points), `pair_kept` (left strictly left of right on the same ring after every pair: why the walks end).
pub mod Doubling
pub mod Making
pub mod Looping
pub mod Converting
pub mod Valid
pub mod Open
