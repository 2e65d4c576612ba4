-- What each act writes, the step on words, and words and forest in step.
pub mod Writes
pub mod Apply
pub mod Codes
pub mod Value
pub mod Step
pub mod InStep
pub mod Rep
pub mod Run
pub mod Opened
pub mod Finish
pub mod Finishable
pub mod Laws
