-- What each function of the test answers, and that all together are the definition.
pub mod Checks
pub mod TestedLaws
pub mod TidyCheckLaws
pub mod TableCheckLaws
pub mod QueueCheckLaws
pub mod PlaceCheckLaws
pub mod LevelCheckLaws
pub mod CheckLaws
