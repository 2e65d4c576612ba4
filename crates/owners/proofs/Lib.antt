-- Laws of owner chains: a table holds what a walk found, and a walk that goes on past it.
-- Following: what the table of lengths says is what following the chain would.
pub mod Tabling
pub mod Following
