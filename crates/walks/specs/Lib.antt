-- What the ring walks ask and answer.
pub mod Ring
