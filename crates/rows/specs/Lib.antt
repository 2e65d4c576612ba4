-- Definitions of rows 4 to 8.
pub mod Circling
pub mod Rows
pub mod Found
