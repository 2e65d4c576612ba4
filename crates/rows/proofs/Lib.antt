-- Laws of rows 4 to 8.
-- Circling: `circling`, `circles` means that no number of owners ends the chain.
-- Homes: `ring_home`, `has_home`, `open_is`. Readiness: `clear`, `chain_ends`, `ready` (a job that passes is ready for the joins).
pub mod Circling
pub mod Homes
pub mod Judging
pub mod Readiness
pub mod Pointing
pub mod Listing
