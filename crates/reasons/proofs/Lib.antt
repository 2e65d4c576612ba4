-- Why there is always room for the text.
pub mod Saying
