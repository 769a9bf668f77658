pub mod Letters
pub mod Ranges
