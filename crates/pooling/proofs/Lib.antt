-- Laws of the pooled store: numbers raised, columns and boxes one after the other, and what the pooled words hold.
-- Pooling: `point_after`, `record_after`, `pooled_sound`. Laying: `pooled_view`. Boxing: `pooled_boxed`.
pub mod Raising
pub mod Pooling
pub mod Columns
pub mod Sides
pub mod Laying
pub mod Boxing
