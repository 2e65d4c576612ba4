-- Laws of the numbers of answers.
pub mod Halves
