-- The rate by the program's arguments, and the charge of an area at a rate.
pub mod Rate
pub mod Charge
