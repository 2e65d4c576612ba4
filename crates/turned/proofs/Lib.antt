-- Laws of turning the direction round.
-- Theorem: `turning_round`, of every list of bytes.
pub mod Settings
pub mod Bits
pub mod Judging
pub mod Joining
pub mod Converting
pub mod Reading
pub mod Opening
pub mod Finishing
pub mod Boxes
pub mod Lists
pub mod Reasons
pub mod Theorem
pub mod Examples
