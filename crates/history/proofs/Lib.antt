-- The proof of request 8's statement.
-- Theorem: `after_calls`, `from_there`. Others: `unaffected`. Jobs: `job_after`, `opened_then`, `finished_then`. Exactly: `fourteen`, `fifteen`.
pub mod Names
pub mod Exactly
pub mod Holding
pub mod Theorem
pub mod Others
pub mod Jobs
pub mod Examples
