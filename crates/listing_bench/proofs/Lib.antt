-- Document 01's listing, by computing.
pub mod Paper
