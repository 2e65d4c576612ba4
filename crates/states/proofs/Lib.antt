-- Laws of kept states.
pub mod Lowest
pub mod Copying
pub mod Calling
pub mod Words
pub mod Others
pub mod Examples
