-- Definitions first, then the laws of them.
pub mod Form
pub mod Reading
pub mod Written
pub mod SameLaws
pub mod FormLaws
pub mod MadeLaws
pub mod MessageLaws
