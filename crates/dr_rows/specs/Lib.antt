pub mod Words
pub mod Growth
pub mod Inside
pub mod Along
