-- Laws of text that is poured, and of decimal numbers.
pub mod Pouring
pub mod Decimals
