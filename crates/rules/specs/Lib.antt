-- The rules of the kernel, their laws and the demand over lists of steps: the names that other crates use.
pub mod Sizes
pub mod Tables
pub mod Levels
pub mod State
pub mod Step
pub mod Effect
pub mod Settle
pub mod Refusal
pub mod Sound
pub mod Answer
pub mod Log
pub mod Invariant
pub mod Vectors
pub mod History
pub mod Demand
pub mod Woken
pub mod Objects
