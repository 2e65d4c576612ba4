-- Laws of the code of a step.
pub mod Steps
pub mod Expecting
pub mod Gliding
pub mod Looping
