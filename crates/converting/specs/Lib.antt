-- Definitions of the pairs of level segments and the joins made from them, and what document 01 says of the sorted list.
pub mod Make
pub mod Needs
pub mod Sentences
