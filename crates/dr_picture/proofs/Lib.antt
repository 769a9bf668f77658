pub mod Growing
pub mod Layers
