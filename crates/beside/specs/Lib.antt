-- Words with boxes written beside the records.
pub mod Sides
