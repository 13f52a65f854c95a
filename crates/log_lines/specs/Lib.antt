-- Definitions first, then the laws of them.
pub mod LogLine
pub mod PutLaws
pub mod LogLineLaws
