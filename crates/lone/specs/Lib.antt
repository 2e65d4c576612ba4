-- The lone ring, in the order in which to read it.
pub mod Act
pub mod Lone
pub mod Path
pub mod Forest
pub mod Order
pub mod Table
pub mod Tree
pub mod Kept
pub mod Measure
pub mod Rounds
pub mod Plane
pub mod Writing
pub mod Finish
pub mod Bench
