-- Walks over a table of ids: the names that other crates use.
pub mod Walk
pub mod WalkLaws
