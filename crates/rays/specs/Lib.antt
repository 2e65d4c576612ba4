-- An edge seen from a point.
pub mod Edge
pub mod Needs
