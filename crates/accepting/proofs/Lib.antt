-- Laws of accepting a job.
-- Accepting: `accepted`, what rows 1 to 8 found of an accepted job. Examples: `holds`, `accept_of` computed on worked jobs, each of which the oracle answers the same.
pub mod Accepting
pub mod Examples
