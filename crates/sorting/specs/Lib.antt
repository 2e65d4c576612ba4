-- Definition of the sort of level segments.
pub mod Sorted
pub mod Columns
