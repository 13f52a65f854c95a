-- Definitions first, then the laws of them.
pub mod Line
pub mod Unread
pub mod Examples
pub mod WrittenLaws
pub mod LineLaws
