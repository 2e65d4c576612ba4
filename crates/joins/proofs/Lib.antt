-- Laws of level segments and joins.
-- AsRings: `join_rings` (what a join does, as rings), `at_turn` (of every join of a list). Turns: `joins_kept`, the joins keep the invariant, refused or not. Sounding: `resolved_sound`.
pub mod Resolving
pub mod Homes
pub mod Joining
pub mod Splitting
pub mod Merging
pub mod Growing
pub mod Naming
pub mod Cases
pub mod Finding
pub mod Renaming
pub mod Turns
pub mod Open
pub mod AsRings
pub mod Sounding
