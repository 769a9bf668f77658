pub mod Runs
pub mod Halves
pub mod Ones
pub mod Opening
