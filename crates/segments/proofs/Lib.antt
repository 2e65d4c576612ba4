-- Laws of level segments.
-- LevelRuns: `level_run`, and `wall_level`, `stop_level`, `limit_level` for each test: runs are level and maximal.
pub mod Walks
pub mod Running
pub mod LevelRuns
pub mod Moving
pub mod Updates
