-- Steps by their codes, and answers in one number.
pub mod Call
pub mod CallLaws
pub mod Packed
