-- Laws of the ring walks.
-- Visiting: `on_ring_lem`, what a walk asks holds of any point on a ring of a sound store.
pub mod Visiting
pub mod Edges
pub mod Shapes
