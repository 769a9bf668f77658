pub mod Marks
pub mod Sheet
