pub mod Calls
pub mod Disk
pub mod Images
pub mod Ranges
pub mod Crashed
pub mod Memory
pub mod Steps
