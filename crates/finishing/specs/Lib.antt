-- The entry points' definitions: what each call answers and leaves, on every input; lists of steps; finishing the rings.
pub mod Step
pub mod Write
pub mod Run
pub mod Finish
pub mod Start
pub mod InOneCall
