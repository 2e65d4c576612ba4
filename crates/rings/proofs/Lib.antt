-- Laws of circles, links and rings.
pub mod Circles
pub mod Counting
pub mod Linking
pub mod Placing
pub mod Walking
pub mod Mapping
pub mod Members
pub mod Splicing
pub mod Inserting
pub mod Tables
pub mod Orbits
