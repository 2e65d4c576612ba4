-- Laws of boxes and their middles, and of one path in another.
pub mod Boxes
pub mod Deciding
pub mod Depths
pub mod Bounds
pub mod Apart
pub mod Examples
