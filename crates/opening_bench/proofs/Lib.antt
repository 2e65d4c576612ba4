-- The worked jobs, by evaluation.
pub mod Holds
