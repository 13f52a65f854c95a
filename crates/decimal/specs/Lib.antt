-- Definitions first, then the laws of them.
pub mod Decimal
pub mod Parse
pub mod DecimalLaws
pub mod ParseLaws
