-- Laws of marks.
-- Bits: `low_is` (a word's low bits at once), `bit_set`. Marking: `marked_with` (the mark of one point is set, every other is as it was).
pub mod Bits
pub mod Marking
