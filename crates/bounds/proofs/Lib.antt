-- Laws of the boxes beside the rings.
pub mod Widening
pub mod Walking
pub mod Beside
