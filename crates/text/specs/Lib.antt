-- Text poured into a lent slice, and decimal numbers.
pub mod Pour
pub mod Text
