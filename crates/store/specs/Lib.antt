-- The work space: layout, words as a store, the code's columns, soundness.
pub mod Field
pub mod States
pub mod Column
pub mod Words
pub mod Stores
pub mod Reason
pub mod Sound
pub mod Good
pub mod Named
pub mod Value
pub mod Boxes
pub mod Needs
