pub mod Age
pub mod Begun
pub mod Logged
pub mod Run
pub mod Sound
pub mod Persisted
