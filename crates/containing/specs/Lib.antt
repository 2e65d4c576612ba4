-- Whether one path contains another, and the middle of a box.
pub mod Middle
pub mod Contains
pub mod Outside
pub mod Needs
