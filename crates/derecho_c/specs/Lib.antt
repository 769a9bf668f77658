pub mod Answers
pub mod Codes
pub mod Owned
pub mod Told
