-- The box of a ring as the code finds it.
pub mod Along
