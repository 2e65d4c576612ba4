-- Laws of the listing of a job.
-- Decided: `cutlist_decided`. Fits: `cutlist_fits`, `listed_whole`. Settings: `jobs_setting`.
pub mod Listing
pub mod Fits
pub mod Decided
pub mod Taking
pub mod Settings
