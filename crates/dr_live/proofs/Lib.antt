mod Choosing
mod Course
pub mod Delivering
mod Growing
