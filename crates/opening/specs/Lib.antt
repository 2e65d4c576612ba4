-- Definitions of opening: what clearing asks of words, rings at their start, the stages, words without boxes yet, what holds afterwards.
pub mod Blank
pub mod Start
pub mod Open
pub mod Unboxed
pub mod After
