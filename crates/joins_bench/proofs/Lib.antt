-- Joins on worked jobs.
pub mod Bench
