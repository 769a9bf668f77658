mod Deeds
mod Steps
mod Outcomes
mod Logs
mod Places
mod Lists
mod Begun
mod Rooms
mod Tellings
mod Turns
mod Sweeps
mod Choices
pub mod Courses
pub mod Repeats
pub mod Simulations
