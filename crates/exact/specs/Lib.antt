-- What it is for a float to hold a whole number.
pub mod Num
pub mod Equal
