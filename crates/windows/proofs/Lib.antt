-- Words compared with sides, the loops, and what the list means.
pub mod Comparing
pub mod Passing
pub mod Listing
pub mod Meeting
pub mod Theorem
pub mod Examples
pub mod Within
