-- Definitions first, then the laws of them.
pub mod Place
pub mod PlaceLaws
