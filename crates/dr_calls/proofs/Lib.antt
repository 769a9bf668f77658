pub mod Between
pub mod Lasting
pub mod Moments
pub mod Ordered
