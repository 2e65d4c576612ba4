-- Laws of renumbering.
-- Theorem: `drawing_finish`, finishing depends on the drawing only. Spaces: `any_space`, the drawing is the same in every work space that is long enough.
pub mod Writing
pub mod Likeness
pub mod Rings
pub mod Joins
pub mod Walks
pub mod Rows
pub mod Pairs
pub mod Forests
pub mod Opening
pub mod Places
pub mod Finishing
pub mod Naming
pub mod Drawings
pub mod Spaces
pub mod Theorem
pub mod Examples
