-- Walks by hand over a lent slice of structs, lowest first.
pub mod Elements
pub mod Lending
pub mod Calling
