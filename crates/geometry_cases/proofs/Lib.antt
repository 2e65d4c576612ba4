-- What the program's own functions lean on.
pub mod Limits
