-- No step lets a ring pass the box which it had at its start; after any list of calls each ring's box is beside it.
pub mod Steps
pub mod Theorem
pub mod Calls
