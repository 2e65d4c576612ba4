-- Points, the tests on them, and boxes.
pub mod Plane
pub mod Box
pub mod Table
