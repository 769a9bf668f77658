pub mod Reached
pub mod Time
pub mod Enough
