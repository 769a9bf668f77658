pub mod Group
pub mod Watches
