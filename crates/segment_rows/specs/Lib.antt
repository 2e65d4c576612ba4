-- Definitions of level segments in a lent slice: the swap, and their columns.
pub mod Swap
pub mod Spread
