-- Laws of the crossing test over whole numbers.
pub mod Crossed
