-- The paths of a store, the tray's fields, writing out, and what its functions require.
pub mod Path
pub mod Tray
pub mod Walking
pub mod Count
pub mod Filling
pub mod Wrote
