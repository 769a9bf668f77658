pub mod Leaving
pub mod Lasting
