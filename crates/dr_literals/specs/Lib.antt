pub mod Literals
pub mod Options
