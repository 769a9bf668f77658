pub mod Historic
pub mod Ends
pub mod Views
pub mod Letters
