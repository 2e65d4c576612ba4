-- Why 50,201 bytes decide a job.
-- Decided: `open_decided`, `finish_decided` (50,201 bytes decide), `longest` (no longer job than 50,180 bytes is accepted). Alike: `fill_whole` (a job that is read has exactly the bytes of its counted fields), `run_same`.
-- Why: a field is read from the first 21 bytes of its part (Fields: `field_same`), and reading is never past what it has counted (Spent: `not_past`).
pub mod Beginnings
pub mod Fields
pub mod Spent
pub mod Alike
pub mod Decided
