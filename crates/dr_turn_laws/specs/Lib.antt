pub mod Wants
pub mod Steady
pub mod Rested
pub mod Swept
