-- Laws of the calls.
pub mod Answers
