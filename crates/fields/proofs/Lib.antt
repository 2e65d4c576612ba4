-- Laws of a field poured into a tray: its bytes, one after the other.
pub mod Pours
