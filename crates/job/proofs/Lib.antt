-- Laws of a job's fields.
-- Rows: `holds`, `field_of` computed on worked fields. Coordinates: `off_the_table_means`, `word_means`. Accepted: `accepted` (a field that is read lies in its part), `within_past` (the counts stay within the limits).
pub mod Fields
pub mod Accepted
pub mod Coordinates
pub mod Rows
