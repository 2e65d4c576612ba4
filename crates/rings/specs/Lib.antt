-- Definitions of circles, links and rings.
pub mod Circle
pub mod Count
pub mod Links
pub mod Place
pub mod Walk
pub mod Whole
pub mod Progress
pub mod Relink
pub mod Table
