-- Laws of the text of a job's records.
-- Fits: `reasons_fit`, `told_whole` (in 27,136 bytes the text is whole). Finished: `in_fact`. Decided: `reasons_decided`.
pub mod Lines
pub mod Finished
pub mod Telling
pub mod Fits
pub mod Decided
