-- Why a record has an outline, or none.
pub mod Telling
pub mod Within
