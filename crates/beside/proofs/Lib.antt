-- Laws: boxes beside the rings, through steps and finishing.
pub mod Setting
pub mod Writing
pub mod Stepping
pub mod Finishing
