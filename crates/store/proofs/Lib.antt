-- Laws of the work space: what a store does, what a sound store gives, what a step on one record keeps.
-- Storing: `view_put`, `view_writes`, `unwritten`, `written`, `hit`, `miss`. Soundness: `whole`, `first_on`, `from_First`, `present_on`, `table_is`, `table_of`.
-- Keeping: `Kept`, `Local`, `local_kept`, `sound_after`, `once_same`, `once_new`, `lone_other`, `kept_new`.
pub mod Storing
pub mod Soundness
pub mod Keeping
pub mod Examples
pub mod Boxing
