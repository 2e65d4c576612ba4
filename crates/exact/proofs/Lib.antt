-- Laws of whole numbers and of floats that hold them, lowest first.
-- The vocabulary is specs/Num: `Within`, `Exact`, `Rounded`, `Num`, `Part`. No contract outside proofs needs more than `Within`.
pub mod Size
pub mod Words
pub mod Parts
pub mod Linear
pub mod Poly
pub mod Fractions
pub mod Floats
pub mod Bounds
pub mod Quotient
