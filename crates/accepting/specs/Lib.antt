-- Definitions of accepting a job.
pub mod Accept
pub mod Accepted
