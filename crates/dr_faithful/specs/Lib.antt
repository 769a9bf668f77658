pub mod Tells
pub mod Faithful
pub mod Chosen
pub mod Late
