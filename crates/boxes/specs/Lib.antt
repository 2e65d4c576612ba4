-- Boxes within boxes, and what a step makes of them.
pub mod Within
pub mod Acts
pub mod Beside
pub mod AtHand
