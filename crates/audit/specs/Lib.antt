-- The tests of the live block of a work space, the marks that the code keeps for them, and what a call leaves.
pub mod Tests
pub mod Marks
pub mod Left
