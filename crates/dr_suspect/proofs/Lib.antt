mod Finds
pub mod Wishes
pub mod Waiting
