-- Where the records of a job went, as text.
pub mod Words
pub mod Lines
pub mod Reasons
pub mod Room
pub mod Needs
pub mod InFact
