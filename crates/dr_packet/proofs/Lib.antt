pub mod Bodies
pub mod Longs
pub mod Parts
pub mod Puts
