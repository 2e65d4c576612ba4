-- The primitives that make, copy and unlink points: their writes, and what they ask.
pub mod Primitive
pub mod Beside
