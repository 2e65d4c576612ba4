-- What every call on an opened work space finds out first, and the tests as the code goes through them at once.
pub mod Handed
pub mod Rounds
