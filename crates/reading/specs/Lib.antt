-- Definitions of reading a job.
pub mod Fill
pub mod Needs
pub mod Read
pub mod Alike
pub mod Standing
pub mod Points
