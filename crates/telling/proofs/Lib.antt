-- Laws of telling.
pub mod Tells
pub mod Within
