-- Laws of the answers, and what they are about.
-- Theorem: `lies_in`. Places: `answers_are`, where the byte of a pair stands.
pub mod Fields
pub mod Rows
pub mod Places
pub mod Depths
pub mod Finishing
pub mod Answering
pub mod Theorem
