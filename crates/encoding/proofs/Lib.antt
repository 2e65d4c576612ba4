-- The bytes of a drawing are read back as that drawing.
pub mod Numbers
pub mod Fielding
pub mod Loading
pub mod Sheets
pub mod Numbering
pub mod Encodable
pub mod Passing
pub mod Again
pub mod Accepted
pub mod Sizes
pub mod Listing
pub mod Theorem
pub mod Examples
