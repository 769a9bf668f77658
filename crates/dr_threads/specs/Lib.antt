pub mod Logs
pub mod Course
pub mod Answers
