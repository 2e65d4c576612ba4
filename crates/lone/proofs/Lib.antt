-- Laws and theorems of the lone ring.
-- Alone: `independent`, document 01's bullets after every list of steps, over any geometry and limits. Table: `table`, the records from the lone rings alone. Trees: `holds_end`, what rings end in.
-- FinishingRings: `rings_finish`, finishing in one call ends in all done and then no list is ever refused as full, or no list gets so far. Coming: `came`, when a record came, and that it was stepped so often since. Bench: tables by evaluation.
-- Acting: an act commutes with a map of the elements. Keeping: first and start stay on the circle. Measuring: `measure_falls`, a number that falls with every step.
pub mod Acting
pub mod Stepping
pub mod Alone
pub mod Table
pub mod Costs
pub mod Every
pub mod Ending
pub mod Dichotomy
pub mod Turning
pub mod Keeping
pub mod Falling
pub mod Measuring
pub mod Plane
pub mod Writing
pub mod Bench
pub mod Trees
pub mod Paths
pub mod Finishing
pub mod FinishingRings
pub mod Coming
