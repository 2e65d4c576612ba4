-- Laws of new numbers: a walk round the rings gives each point its number.
pub mod Rounds
