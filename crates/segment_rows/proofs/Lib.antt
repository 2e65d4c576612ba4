-- Laws of segments in a lent slice.
-- Same: `same_exchange`, `same_sort`, the sort over structs leaves what the sort over parallel slices leaves.
pub mod Swapping
pub mod Sorting
pub mod Same
pub mod Spreading
