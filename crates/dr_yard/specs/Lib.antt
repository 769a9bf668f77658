pub mod Places
pub mod Files
pub mod Memory
pub mod Yards
pub mod Checksums
pub mod Breaches
pub mod Walks
pub mod Seals
