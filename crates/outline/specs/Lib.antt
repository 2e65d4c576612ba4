-- What the calls for C and Rust answer and leave.
pub mod Calls
