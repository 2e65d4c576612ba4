-- Definitions of a job: its limits, fields and refusals.
pub mod Limits
pub mod Refusal
pub mod Coordinate
pub mod Field
pub mod Job
