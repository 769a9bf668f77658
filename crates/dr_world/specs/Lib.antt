pub mod Held
pub mod Posts
pub mod Steps
pub mod Inside
pub mod InsidePosts
pub mod Begun
