-- Laws of the calls for C and Rust.
pub mod Numbers
