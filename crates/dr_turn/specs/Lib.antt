pub mod Search
pub mod Work
