-- Definitions first, then the laws of them.
pub mod Arrive
pub mod Feed
pub mod Calls
pub mod ArriveLaws
pub mod FeedLaws
pub mod FeedArrivalLaws
pub mod CallsLaws
