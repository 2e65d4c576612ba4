-- Laws of the test whether an act may change a box.
pub mod Changing
