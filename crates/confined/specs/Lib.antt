-- Boxes that rings had at their start; boxes after any list of calls.
pub mod Confined
pub mod OfCalls
