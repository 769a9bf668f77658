pub mod Groups
pub mod Setups
pub mod Left
pub mod Choosing
pub mod Trying
pub mod Refusing
