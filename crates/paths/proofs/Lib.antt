-- Laws of coordinates and their bytes, of walks and paths, of bytes laid over a tray.
-- Bound: `always_suffice`, `never_small`: 26,112 bytes always suffice. Directions: `ringed`, the walk from where a path starts is the ring in the path's order. Examples: `tray_is`.
pub mod Coordinates
pub mod Walks
pub mod Rounds
pub mod Directions
pub mod Sizes
pub mod Counts
pub mod Parts
pub mod Fields
pub mod Filling
pub mod Bound
pub mod Tables
pub mod Laying
pub mod Writing
pub mod Examples
