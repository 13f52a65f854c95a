-- Message queues as rings in a block of words: the names that other crates use.
pub mod Words
pub mod Ring
pub mod Starts
pub mod Held
