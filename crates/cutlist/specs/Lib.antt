-- What is read at a rate.
pub mod Taking
