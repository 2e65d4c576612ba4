-- One drawing under two numberings of its points.
pub mod Places
pub mod Drawing
pub mod Renumbered
pub mod Same
