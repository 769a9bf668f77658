pub mod Givens
pub mod Tables
pub mod Standing
pub mod Forgetting
pub mod Scanning
pub mod Prefixes
