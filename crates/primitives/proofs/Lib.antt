-- Laws of points by value and of the primitives.
-- Coordinates: `in_table`, `raised_back`. Taking: what the code of a primitive leaves. Copies: a copy is its point by value.
pub mod Coordinates
pub mod Taking
pub mod Copies
