-- Laws of two drawings on one table.
-- Two: `two_drawings`, of every two work spaces. Jobs: `of_jobs`, of two accepted jobs. Together: `pooled_start`.
pub mod Records
pub mod Forests
pub mod Weighing
pub mod Outlines
pub mod Together
pub mod Reasons
pub mod Two
pub mod Jobs
