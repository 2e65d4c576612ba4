-- Worked jobs of opening.
pub mod Bench
