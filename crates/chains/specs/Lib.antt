-- Chains of a partial map and the least value that leads to a place: the names that other crates use.
pub mod Chain
pub mod Least
pub mod ChainLaws
pub mod LeastLaws
