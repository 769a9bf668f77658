pub mod Known
pub mod Groups
