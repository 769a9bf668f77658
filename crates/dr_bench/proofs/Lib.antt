pub mod Bounds
pub mod Items
mod Late
