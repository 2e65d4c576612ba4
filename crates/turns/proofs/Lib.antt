-- Laws of the code of a decision.
pub mod Reading
pub mod Removing
pub mod Splitting
pub mod Deciding
pub mod Sizes
pub mod Decisions
pub mod Ready
