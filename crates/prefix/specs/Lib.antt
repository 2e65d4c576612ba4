-- How many bytes decide a job.
pub mod Decides
