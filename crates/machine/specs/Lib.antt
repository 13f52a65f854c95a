-- What each function of the steps answers, and that on a sound record it is the packed rule.
pub mod Machine
pub mod Planned
