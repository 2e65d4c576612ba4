-- Marks of a job's points.
pub mod Marks
