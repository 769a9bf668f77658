pub mod Lone
pub mod Coming
pub mod Sending
pub mod Letters
pub mod Inside
pub mod Begun
pub mod Apart
