-- The starred bench examples hold.
pub mod Rows
