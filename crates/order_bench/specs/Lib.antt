-- The starred bench examples.
pub mod Bench
