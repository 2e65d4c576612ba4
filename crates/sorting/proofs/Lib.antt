-- Laws of the sort of level segments.
-- Stable: `sorted_stable`, `sorted_rises`, `sorted_each`.
pub mod Stable
pub mod Sinking
