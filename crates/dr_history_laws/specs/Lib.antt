pub mod Laid
pub mod Courses
pub mod Remaining
pub mod Parts
