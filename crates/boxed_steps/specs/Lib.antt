-- What a step leaves, with the boxes beside the rings; and what its code asks.
pub mod Leaves
pub mod Needs
