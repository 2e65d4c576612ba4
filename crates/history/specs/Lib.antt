-- States and their histories: what calls do to them, and the statements: after any list of calls, of other places, of a job.
pub mod Histories
pub mod AfterCalls
pub mod Others
pub mod Jobs
