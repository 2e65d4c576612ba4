-- Laws of the code of a step with its boxes.
pub mod Carrying
