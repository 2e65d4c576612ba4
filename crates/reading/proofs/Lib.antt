-- Laws of reading a job.
-- Going: the bound of `run` is never met. Counted: `filled` (counts within the limits), `counts` (the words say them). Bits: no unused bit is set.
-- Ignoring: `ignores`, what was in the words and lists before does not matter. Standing: `standing`, each point's numbers are those that stand in its field.
pub mod Placing
pub mod Going
pub mod Counted
pub mod Bits
pub mod Ignoring
pub mod Standing
pub mod Running
