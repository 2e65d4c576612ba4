-- Laws of mending the backward links of a job.
-- Theorem: `mends`, of every list of bytes. Exactly: each answer exactly where it is given.
pub mod Tables
pub mod Once
pub mod Laying
pub mod Checking
pub mod Passing
pub mod Agreeing
pub mod Fields
pub mod Alike
pub mod Choosing
pub mod Inverse
pub mod FirstFive
pub mod Choices
pub mod Exactly
pub mod Opened
pub mod Again
pub mod Theorem
pub mod Examples
