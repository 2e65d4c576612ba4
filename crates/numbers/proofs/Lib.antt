-- Laws of numbers in bytes.
-- Widths: `below` (under 256^n), `shifted` (the same bytes in a part), `same_bytes`.
-- Written: `read_written`, `comes_back` (written, then read), `written_back` (read, then written changes nothing), `kept`, `kept_before`, `kept_after` (every other byte and number stays), `put_shifted`, `put_behind` (a part).
-- Raises: `lowered_raised`, `raised_lowered`, `off_means`, `lowered_means`, `raised_means`.
pub mod Widths
pub mod Written
pub mod Raises
