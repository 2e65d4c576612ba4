-- Paths forward and reversed: over any geometry, stretches of neighbours at one place, of the plane, of a store; point by point, and examples.
-- Paths: `path_turned`. Stores: `closed_other`, `open_other`, all paths of a store. Clusters: `walk_turned`, `only_turned` (no other two paths are so). Singles: `single_points`, the same of single points.
pub mod Keyed
pub mod Clusters
pub mod Singles
pub mod Paths
pub mod Stores
pub mod Examples
