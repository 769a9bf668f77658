pub mod Cards
pub mod Deeds
pub mod Mounting
pub mod Records
pub mod Starts
pub mod Told
