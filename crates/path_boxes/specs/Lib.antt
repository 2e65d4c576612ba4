-- A table of the boxes of a tray's paths.
pub mod Table
