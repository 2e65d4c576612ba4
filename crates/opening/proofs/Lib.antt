-- Laws of opening: words of zeros, the cleared work space, rings at their start, what a stage gives the next, a joins list with more places, the stages put together, what holds after an accepted opening, words without boxes yet.
-- Accepted: `after_opening_lem`, `open_as_given`. Behind: `opened_over`, `open_rest` (behind the names every word is as found), stage by stage in BehindReading, BehindSegments and BehindJoins.
pub mod Blanking
pub mod Clearing
pub mod Starting
pub mod Passing
pub mod Growing
pub mod Staging
pub mod Accepted
pub mod Unboxed
pub mod BehindReading
pub mod BehindSegments
pub mod BehindJoins
pub mod Behind
