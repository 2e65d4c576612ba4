-- What the code of a step is about: its answers by the names of the definitions, and what its functions require.
pub mod Code
pub mod Expects
pub mod Glide
pub mod Live
pub mod Foretold
