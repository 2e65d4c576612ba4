-- A store under the other setting, paths in opposite order, and what either path keeps of neighbours at one place.
pub mod Opposite
pub mod Turned
