-- Definitions first, then the laws of them.
pub mod LineRun
pub mod LineRunLaws
