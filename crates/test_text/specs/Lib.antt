-- Definitions of what the test programs read and print.
pub mod Places
pub mod Ring
pub mod Words
