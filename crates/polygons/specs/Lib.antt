-- Where a point lies in respect of a path, by the crossing rule, and the rule as core.rs writes it.
pub mod Polygon
pub mod AsWritten
pub mod Needs
