-- The new number of each point.
pub mod Numbers
