-- Laws of a table of boxes.
pub mod Tables
