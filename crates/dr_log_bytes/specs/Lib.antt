pub mod Content
pub mod Grammar
pub mod Blocks
pub mod Parsed
