-- Definitions of level segments and joins: resolving, the invariant, joins.
pub mod Error
pub mod Resolve
pub mod Paths
pub mod Resolved
pub mod Join
pub mod Needs
pub mod AsRings
