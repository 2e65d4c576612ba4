-- Laws of the tests.
-- Agreeing: `passed_sound`, `sound_passed`, `tests_decide`, the tests pass exactly when the store is sound.
-- Reaching: `reached` (`Reached.shut`, `Reached.starts`), `only_reached`: the points that are looked at are those that can be reached.
pub mod Testing
pub mod Marking
pub mod Reaching
pub mod Saying
pub mod Ringing
pub mod Finding
pub mod Deciding
pub mod Agreeing
