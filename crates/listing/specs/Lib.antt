-- The listing of a tray: document 01, "The listing".
pub mod Words
pub mod Fields
pub mod Needs
pub mod Lines
pub mod Charge
pub mod Senses
pub mod Room
pub mod Told
