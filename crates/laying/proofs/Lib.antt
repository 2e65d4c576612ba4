-- Laws of laying two drawings together.
-- Deciding: `answer_is`, `refused_leaves`. Calls: the tests, one by one.
pub mod Calls
pub mod Deciding
