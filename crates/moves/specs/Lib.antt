-- What a step moves between the message, the block and the words that tasks hold: the names that other crates use.
pub mod Fits
pub mod Moves
pub mod FitsLaws
pub mod MovesLaws
