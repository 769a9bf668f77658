pub mod Puts
pub mod Letters
