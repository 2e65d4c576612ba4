-- Request 6, "Nothing left to tidy": the statement.
pub mod Tidied
