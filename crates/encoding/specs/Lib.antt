-- A drawing as a job's bytes.
pub mod Sheet
pub mod Encode
pub mod OneWay
