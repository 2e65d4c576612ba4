-- Laws of the crossing rule.
-- Written: `as_written`, the rule as core.rs writes it is the rule.
pub mod Turns
pub mod Going
pub mod Written
pub mod Beside
pub mod Depths
pub mod Examples
