-- What the code of a decision is about: its acts by the names of the definitions, what its functions require, and the decision on the store.
pub mod Code
pub mod Form
pub mod Reads
pub mod Decide
