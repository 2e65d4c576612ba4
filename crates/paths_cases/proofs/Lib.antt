-- Laws of the stored rings' program.
pub mod Answers
