-- Laws of places past the end, of words and numbers, and of a ring's text.
pub mod Past
pub mod Ringing
pub mod Reading
