-- What applying an act requires.
pub mod Applies
