pub mod Slots
pub mod Rule
pub mod Steps
pub mod Sweeps
pub mod Cards
pub mod Inside
pub mod Deeds
