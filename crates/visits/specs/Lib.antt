-- The points on the rings, those that resolve elsewhere, and the marks of those visited.
pub mod Rings
pub mod Marks
