-- Laws of an edge seen from a point.
pub mod Shortcuts
pub mod Tests
