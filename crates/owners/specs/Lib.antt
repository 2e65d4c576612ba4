-- Owner chains: which of them circle, and the tables that spare a second walk.
pub mod Owners
pub mod Tables
