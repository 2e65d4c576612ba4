-- The laws of a step on a work space that others altered.
-- Theorem: `altered`. Needed: `apart`, why a condition on starts is needed, on five points.
pub mod OwnForest
pub mod Starts
pub mod Theorem
pub mod Needed
