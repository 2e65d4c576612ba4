-- Laws of rewriting a job.
-- Answers: `rewrites`. Encodes: `encodes`, the written fields are those of the drawing. NewNumbers: `new_number_lem`, what the table of new numbers holds.
pub mod Laying
pub mod NewNumbers
pub mod Encodes
pub mod Ends
pub mod Answers
