-- Laying two drawings together, on worked work spaces.
pub mod Examples
