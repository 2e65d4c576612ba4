-- The second of two work spaces after the first: the pooled store, and its words.
pub mod Pooled
pub mod Words
pub mod Needs
