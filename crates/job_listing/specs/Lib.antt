-- The listing of a job.
pub mod Cutlist
pub mod Setting
