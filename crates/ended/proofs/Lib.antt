-- Laws of what ended a ring.
-- Opened: `stages`, every accepted job has them. Told: `tells`. Alike: `same_reasons`.
pub mod Gone
pub mod Joining
pub mod Stepping
pub mod Discarding
pub mod Opened
pub mod Telling
pub mod Told
pub mod Alike
pub mod Examples
