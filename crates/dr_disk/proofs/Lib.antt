pub mod Steps
pub mod Moments
pub mod Images
pub mod Filling
pub mod Ranges
pub mod DiskCalls
