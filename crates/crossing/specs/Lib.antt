-- Where two edges cross: in whole numbers, in the floats that the code has, and what it asks of them.
pub mod Crossing
pub mod Within
pub mod Floats
