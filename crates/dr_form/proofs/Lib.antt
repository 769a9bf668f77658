pub mod Finishing
pub mod Keeps
pub mod Steps
