-- Definitions of rewriting a job.
pub mod Rewrite
pub mod Fields
pub mod Stages
pub mod Answers
