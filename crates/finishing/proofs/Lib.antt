-- Laws of the entry points.
-- InOneCall: `opening_left`, opening leaves a start. Entering: `refused_leaves`, a refused step leaves every word. Refusals: `open_rows` (opening gives rows 1 to 10 only), `tests_rows` (tests up to 7), `write_not_small`, `finish_not_small`.
pub mod Entering
pub mod Blocks
pub mod Calls
pub mod Starting
pub mod InOneCall
pub mod Refusals
