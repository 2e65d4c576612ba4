-- Laws of the rings of a job: a chain ends at its record, a table holds what chains come to, and a round marks the points of its ring.
-- Marking: `unmarked_alone`, a point without a mark is on no record's ring. Reaching: what the table of homes says is what following the chain would.
pub mod Marking
pub mod Chains
pub mod Reaching
pub mod Rounds
