-- The word of level marks: what it is, the first level that it marks, and the laws of bits behind it.
pub mod Bits
pub mod BitLaws
pub mod Marks
pub mod MarkLaws
