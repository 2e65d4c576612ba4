-- Definitions of numbers in bytes.
pub mod Bytes
pub mod Written
pub mod Raised
