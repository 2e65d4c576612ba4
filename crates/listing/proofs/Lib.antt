-- Laws of the tray's fields.
-- Senses: `holes_stay`, `words_stay`, `charge_stays`: words and charge under either setting.
pub mod Signs
pub mod Points
pub mod Runs
pub mod Heads
pub mod Charging
pub mod Senses
pub mod Telling
pub mod Examples
pub mod Trays
pub mod Room
pub mod Answers
