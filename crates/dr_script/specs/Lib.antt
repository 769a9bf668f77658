pub mod Json
pub mod Places
pub mod Rules
pub mod Reading
pub mod Ranges
