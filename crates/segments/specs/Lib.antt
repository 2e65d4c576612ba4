-- Definitions of level segments: the walks, the segments of a job, a pair's moves.
pub mod Level
pub mod Needs
pub mod Pair
pub mod Update
pub mod LevelRun
