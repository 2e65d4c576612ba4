-- Laws of applying an act: the words that the writes leave are those that its list leaves.
pub mod Applying
