pub mod Sitting
pub mod Seats
