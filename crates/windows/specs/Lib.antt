-- Windows: which boxes meet one, the call that lists their records, and what the list means.
pub mod Window
pub mod RecordsIn
pub mod Needs
pub mod Within
pub mod Windows
