-- Request 5, "Tell me where my shape went": what in fact ended a ring.
pub mod Discarded
pub mod Joined
pub mod Stages
pub mod Ended
pub mod Alike
