-- The tests of a work space, their order, and the records in a window, on worked work spaces.
pub mod Tests
pub mod Boxes
