-- States to come back to: places, the three calls.
pub mod Places
pub mod Calls
